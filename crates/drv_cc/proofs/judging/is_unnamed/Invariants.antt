use Rattle.drv_cc.proofs.judging.is_unnamed.Given as goal
use Rattle.drv_cc.specs.Kept.{unnamed_from}
use Rattle.std.proofs.Common.{◌≡◌, drop, false}

abbrev pub invariant-loop-item : goal.invariant-loop-item
invariant-loop-item l = unnamed_from l.unnamed (drop l.item-index l.items) ≡ unnamed_from false l.items
