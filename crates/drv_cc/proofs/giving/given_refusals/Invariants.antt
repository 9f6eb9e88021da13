use Rattle.drv_cc.proofs.giving.given_refusals.Given as goal
use Rattle.drv_cc.specs.SelfSpecs.{given_refusals}
use Rattle.std.proofs.Common.{◌≡◌, ◌++◌, drop}

abbrev pub invariant-loop-item : goal.invariant-loop-item
invariant-loop-item l = l.refused ++ given_refusals l.named (drop l.item-index l.given) ≡ given_refusals l.named l.given
