use Rattle.drv_cc.specs.Code.Building.{row_shown}
use Rattle.drv_cc.specs.Items.{items_of}
use Rattle.std.proofs.Common.{◌≡◌, ◌++◌, None, drop}
use Rattle.drv_cc.proofs.reading.note_words.Given as goal

abbrev pub invariant-loop-word : goal.invariant-loop-word
invariant-loop-word l =
    l.items ++ items_of l.known (row_shown l.wanting) (drop l.word-index l.words) ≡ l.fn.items ++ items_of l.fn.known None l.fn.words
