use Rattle.std.proofs.Common.{◌≡◌, ◌++◌, drop}
use Rattle.drv_words.specs.Printed.{words_text}
use Rattle.drv_words.proofs.printing.push_words.Given as goal

-- the text so far, with that of the words that are left, is that before and of all words
abbrev pub invariant-loop-word : goal.invariant-loop-word
invariant-loop-word l = l.text.items ++ words_text (drop l.word-index l.words) ≡ l.fn.text.items ++ words_text l.words
