use Rattle.drv_gcc.proofs.listed.push_head.Given as goal
use Rattle.drv_gcc.specs.Answers.{head}
use Rattle.std.proofs.Common.{◌≡◌, ◌++◌, length}

abbrev pub invariant-loop-left : goal.invariant-loop-left
invariant-loop-left l = l.name ++ head l.left ≡ l.fn.name ++ head l.word

abbrev pub decreases-loop-left : goal.decreases-loop-left
decreases-loop-left l = length l.left
