use Rattle.drv_cc.proofs.placing.stay_here.Given as goal
use Rattle.drv_cc.specs.SideFiles.{here_from}
use Rattle.std.proofs.Common.{◌≡◌, drop, false}

abbrev pub invariant-loop-item : goal.invariant-loop-item
invariant-loop-item l = here_from l.here (drop l.item-index l.items) ≡ here_from false l.items
