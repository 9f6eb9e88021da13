use Rattle.drv_gcc.proofs.answers.push_name.Given as goal
use Rattle.drv_gcc.specs.Answers.{name_before}
use Rattle.std.proofs.Common.{◌≡◌, ◌++◌, length}

abbrev pub invariant-loop-left : goal.invariant-loop-left
invariant-loop-left l = l.name ++ name_before l.left ≡ l.fn.name ++ name_before l.text

abbrev pub decreases-loop-left : goal.decreases-loop-left
decreases-loop-left l = length l.left
