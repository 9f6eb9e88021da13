use Rattle.drv_cc.proofs.hiding.live.Given as goal
use Rattle.drv_cc.specs.SelfSpecs.{live}
use Rattle.std.proofs.Common.{◌≡◌, ◌++◌, drop}

abbrev pub invariant-loop-item : goal.invariant-loop-item
invariant-loop-item l = l.stay ++ live (drop l.item-index l.items) l.left ≡ live l.items l.fn.left
