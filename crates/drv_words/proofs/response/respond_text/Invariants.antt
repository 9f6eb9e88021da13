use Rattle.std.proofs.Common.{◌≡◌, ◌++◌, drop}
use Rattle.drv_words.specs.Response.{response_text}
use Rattle.drv_words.proofs.response.respond_text.Given as goal

-- the text so far, with that of the words that are left, is that of all words
abbrev pub invariant-loop-word : goal.invariant-loop-word
invariant-loop-word l = l.text ++ response_text (drop l.word-index l.words) ≡ response_text l.words
