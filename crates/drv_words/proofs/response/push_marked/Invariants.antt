use Rattle.std.proofs.Common.{◌≡◌, ◌++◌, drop}
use Rattle.drv_words.specs.Response.{marked}
use Rattle.drv_words.proofs.response.push_marked.Given as goal

-- the text so far, with the bytes that are left marked, is that before and the whole word marked
abbrev pub invariant-loop-byte : goal.invariant-loop-byte
invariant-loop-byte l = l.text ++ marked (drop l.byte-index l.word) ≡ l.fn.text ++ marked l.word
