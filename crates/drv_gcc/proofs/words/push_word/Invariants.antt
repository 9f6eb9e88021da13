use Rattle.drv_gcc.proofs.words.push_word.Given as goal
use Rattle.drv_gcc.specs.SpecFile.{word_byte}
use Rattle.std.specs.List.{flat_map}
use Rattle.std.proofs.Common.{◌≡◌, ◌++◌, drop}

abbrev pub invariant-loop-byte : goal.invariant-loop-byte
invariant-loop-byte l = l.text ++ flat_map word_byte (drop l.byte-index l.word) ≡ l.fn.text ++ flat_map word_byte l.word
