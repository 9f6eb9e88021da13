use Rattle.drv_compile.proofs.telling.lines_told.Given as goal
use Rattle.drv_compile.specs.Near.{AreTold}
use Rattle.std.proofs.Common.{List, ◌++◌, drop, ℕ}

-- The text so far, with the lines of the refusals left, has the lines of all.
abbrev pub invariant-loop-refusal : goal.invariant-loop-refusal
invariant-loop-refusal l =
    (rest : List ℕ) → AreTold l.name l.known (drop l.refusal-index l.refusals) rest → AreTold l.name l.known l.refusals (l.text ++ rest)
