use Rattle.drv_words.proofs.copies.copy_words.Given as goal
use Rattle.std.proofs.Common.{◌≡◌, ◌++◌, drop}

-- the copies so far, with the words that are left, are the words
abbrev pub invariant-loop-word : goal.invariant-loop-word
invariant-loop-word l = l.copies ++ drop l.word-index l.words ≡ l.words
