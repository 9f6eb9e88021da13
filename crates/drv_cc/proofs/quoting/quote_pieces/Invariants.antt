use Rattle.drv_cc.specs.Front.{piece_byte}
use Rattle.drv_words.specs.Bytes.{single_quote}
use Rattle.std.proofs.Common.{◌≡◌, ◌∷◌, ◌++◌, drop}
use Rattle.std.specs.List.{flat_map}
use Rattle.drv_cc.proofs.quoting.quote_pieces.Given as goal

abbrev pub invariant-loop-byte : goal.invariant-loop-byte
invariant-loop-byte l = l.text ++ flat_map piece_byte (drop l.byte-index l.argument) ≡ l.fn.text ++ single_quote
    ∷ flat_map piece_byte l.argument
