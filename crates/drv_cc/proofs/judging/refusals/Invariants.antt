use Rattle.drv_cc.specs.Kept.{refused_item}
use Rattle.std.proofs.Common.{◌≡◌, ◌++◌, drop}
use Rattle.std.specs.List.{flat_map}
use Rattle.drv_cc.proofs.judging.refusals.Given as goal

abbrev pub invariant-loop-item : goal.invariant-loop-item
invariant-loop-item l = l.refused ++ flat_map (refused_item l.named) (drop l.item-index l.items) ≡ flat_map (refused_item l.named) l.items
