use Rattle.drv_cc.proofs.giving.add_items.Given as goal
use Rattle.std.proofs.Common.{◌≡◌, ◌++◌, drop}

abbrev pub invariant-loop-item : goal.invariant-loop-item
invariant-loop-item l = l.all ++ drop l.item-index l.items ≡ l.fn.all ++ l.items
