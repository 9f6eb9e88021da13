use Rattle.drv_cc.specs.Front.{piece_text}
use Rattle.std.proofs.Common.{◌≡◌, ◌++◌, drop}
use Rattle.std.specs.List.{flat_map}
use Rattle.drv_cc.proofs.quoting.add_all_pieces.Given as goal

abbrev pub invariant-loop-item : goal.invariant-loop-item
invariant-loop-item l = l.text ++ flat_map piece_text (drop l.item-index l.items) ≡ l.fn.text ++ flat_map piece_text l.items
