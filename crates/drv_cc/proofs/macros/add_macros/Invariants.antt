use Rattle.drv_cc.proofs.macros.add_macros.Given as goal
use Rattle.drv_cc.specs.Front.{macro_word}
use Rattle.std.proofs.Common.{◌≡◌, ◌++◌, drop}
use Rattle.std.specs.List.{flat_map}

abbrev pub invariant-loop-item : goal.invariant-loop-item
invariant-loop-item l = l.words ++ flat_map macro_word (drop l.item-index l.items) ≡ l.fn.words ++ flat_map macro_word l.items
