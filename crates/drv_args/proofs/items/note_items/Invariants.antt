use Rattle.drv_args.specs.Code.Building.{with_items}
use Rattle.std.proofs.Common.{◌≡◌, drop}
use Rattle.drv_args.proofs.items.note_items.Given as goal

-- the line so far, with the items that are left, is the line with all of them
abbrev pub invariant-loop-item : goal.invariant-loop-item
invariant-loop-item l = with_items l.builder (drop l.item-index l.items) ≡ with_items l.fn.builder l.items
