use Rattle.drv_gcc.proofs.composing.push_words.Given as goal
use Rattle.drv_gcc.specs.SpecFile.{then_blank}
use Rattle.std.specs.List.{flat_map}
use Rattle.std.proofs.Common.{◌≡◌, ◌++◌, drop}

abbrev pub invariant-loop-word : goal.invariant-loop-word
invariant-loop-word l = l.body ++ flat_map then_blank (drop l.word-index l.words) ≡ l.fn.body ++ flat_map then_blank l.words
