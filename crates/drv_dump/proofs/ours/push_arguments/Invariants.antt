use Rattle.drv_dump.proofs.ours.push_arguments.Given as goal
use Rattle.drv_dump.specs.Ours.{arguments_from}
use Rattle.std.proofs.Common.{◌≡◌, ◌++◌, length}

abbrev pub invariant-loop-left : goal.invariant-loop-left
invariant-loop-left l = l.word ++ arguments_from l.left ≡ l.fn.word ++ arguments_from l.call

abbrev pub decreases-loop-left : goal.decreases-loop-left
decreases-loop-left l = length l.left
