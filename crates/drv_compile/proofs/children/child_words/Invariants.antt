use Rattle.drv_compile.proofs.children.child_words.Given as goal
use Rattle.drv_compile.specs.Machines.{child_word}
use Rattle.std.specs.List.{flat_map}
use Rattle.std.proofs.Common.{◌≡◌, map}

abbrev pub invariant-loop-word : goal.invariant-loop-word
invariant-loop-word l = l.words ≡ flat_map (child_word l.items) (map (λ word. word.now) l.yielded)
