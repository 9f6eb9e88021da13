use Rattle.drv_dump.proofs.ours.translate_text.Given as goal
use Rattle.drv_dump.specs.Ours.{all_words, ours_of, words_before}
use Rattle.std.proofs.Common.{◌≡◌, drop}

abbrev pub invariant-loop-piece : goal.invariant-loop-piece
invariant-loop-piece l = words_before l.word (all_words (drop l.piece-index l.piece-items)) ≡ ours_of l.fn.text
