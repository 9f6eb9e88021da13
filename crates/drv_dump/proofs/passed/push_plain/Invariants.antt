use Rattle.drv_dump.proofs.passed.push_plain.Given as goal
use Rattle.drv_dump.specs.Passed.{passed_from}
use Rattle.std.proofs.Common.{◌≡◌, [], ◌++◌, length}

abbrev pub invariant-loop-left : goal.invariant-loop-left
invariant-loop-left l = l.copy ++ passed_from l.word l.left ≡ l.fn.copy ++ passed_from [] l.text

abbrev pub decreases-loop-left : goal.decreases-loop-left
decreases-loop-left l = length l.left
