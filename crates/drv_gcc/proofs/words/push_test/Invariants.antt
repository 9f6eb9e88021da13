use Rattle.drv_gcc.proofs.words.push_test.Given as goal
use Rattle.drv_gcc.specs.SpecFile.{test_byte}
use Rattle.std.specs.List.{flat_map}
use Rattle.std.proofs.Common.{◌≡◌, ◌++◌, drop}

abbrev pub invariant-loop-byte : goal.invariant-loop-byte
invariant-loop-byte l = l.text ++ flat_map test_byte (drop l.byte-index l.word) ≡ l.fn.text ++ flat_map test_byte l.word
