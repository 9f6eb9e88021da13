use Rattle.drv_gcc.proofs.listed.push_first.Given as goal
use Rattle.drv_gcc.specs.Answers.{first_word}
use Rattle.std.proofs.Common.{◌≡◌, ◌++◌, length}

abbrev pub invariant-loop-left : goal.invariant-loop-left
invariant-loop-left l = l.word ++ first_word l.left ≡ l.fn.word ++ first_word l.line

abbrev pub decreases-loop-left : goal.decreases-loop-left
decreases-loop-left l = length l.left
