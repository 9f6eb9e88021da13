use Rattle.drv_cc.specs.Front.{quoted_byte}
use Rattle.drv_words.specs.Bytes.{single_quote}
use Rattle.std.proofs.Common.{◌≡◌, ◌∷◌, ◌++◌, drop}
use Rattle.std.specs.List.{flat_map}
use Rattle.drv_cc.proofs.quoting.quote.Given as goal

abbrev pub invariant-loop-byte : goal.invariant-loop-byte
invariant-loop-byte l = l.text ++ flat_map quoted_byte (drop l.byte-index l.word) ≡ l.fn.text ++ single_quote ∷ flat_map quoted_byte l.word
