use Rattle.drv_gcc.proofs.listed.option_lines.Given as goal
use Rattle.drv_gcc.specs.Answers.{known_by}
use Rattle.drv_words.specs.Bytes as byte
use Rattle.std.specs.List.{flat_map}
use Rattle.std.proofs.Common.{◌≡◌, [], ◌∷◌, ◌++◌, drop}

abbrev pub invariant-loop-word : goal.invariant-loop-word
invariant-loop-word l = l.lines ++ flat_map (λ word. known_by l.all word ++ byte.newline ∷ []) (drop l.word-index l.all)
    ≡ flat_map (λ word. known_by l.all word ++ byte.newline ∷ []) l.all
