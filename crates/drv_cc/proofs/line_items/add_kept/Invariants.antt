use Rattle.drv_cc.specs.LineItems.{line_item}
use Rattle.std.proofs.Common.{◌≡◌, ◌++◌, drop}
use Rattle.std.specs.List.{filter_map}
use Rattle.drv_cc.proofs.line_items.add_kept.Given as goal

abbrev pub invariant-loop-item : goal.invariant-loop-item
invariant-loop-item l = l.given ++ filter_map line_item (drop l.item-index l.items) ≡ l.fn.given ++ filter_map line_item l.items
