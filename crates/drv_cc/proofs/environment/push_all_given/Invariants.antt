use Rattle.drv_cc.proofs.environment.push_all_given.Given as goal
use Rattle.drv_cc.specs.Children.{given_text}
use Rattle.std.proofs.Common.{◌≡◌, ◌++◌, drop}
use Rattle.std.specs.List.{flat_map}

abbrev pub invariant-loop-item : goal.invariant-loop-item
invariant-loop-item l = l.path ++ flat_map given_text (drop l.item-index l.items) ≡ l.fn.path ++ flat_map given_text l.items
