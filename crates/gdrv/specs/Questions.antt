use Rattle.gdrv.specs.declared.question.Question.TheVariants.{Help, Version}
use Rattle.gdrv.specs.declared.question.Question.{Question}
use Rattle.std.specs.Cmp.Lexicographic.{pointwise}
use Rattle.std.specs.Prelude.{List, [], ◌∷◌, None, Option, Some, codes, if◌then◌else◌, nat_eq, ℕ}

-- A call whose only word asks something about the program itself (this project's profile).

-- the question that a word is
abbrev pub asked : List ℕ → Option Question
asked word =
    if pointwise nat_eq word (codes "--help") then Some Help
    else if pointwise nat_eq word (codes "--version") then Some Version else None

-- a call asks one if it is its only word
abbrev pub question_of : List (List ℕ) → Option Question
question_of [] = None
question_of (word ∷ []) = asked word
question_of (word ∷ other ∷ words) = None
