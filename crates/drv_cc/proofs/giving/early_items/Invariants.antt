use Rattle.drv_cc.proofs.giving.early_items.Given as goal
use Rattle.drv_cc.specs.SelfSpecs.{is_late}
use Rattle.std.proofs.Common.{◌≡◌, ◌++◌, drop}
use Rattle.std.specs.List.{filter}
use Rattle.std.specs.Prelude.{not}

abbrev pub invariant-loop-item : goal.invariant-loop-item
invariant-loop-item l = l.some ++ filter (λ i. not (is_late i)) (drop l.item-index l.items) ≡ filter (λ i. not (is_late i)) l.items
