use Rattle.std.proofs.Common.{◌≡◌, ◌++◌, drop}
use Rattle.drv_words.specs.Printed.{escaped}
use Rattle.drv_words.proofs.quoting.push_escaped.Given as goal

-- the text so far, with the bytes that are left escaped, is that before and the whole word escaped
abbrev pub invariant-loop-byte : goal.invariant-loop-byte
invariant-loop-byte l = l.text.items ++ escaped (drop l.byte-index l.word) ≡ l.fn.text.items ++ escaped l.word
