use Rattle.drv_compile.proofs.passing.libraries.Given as goal
use Rattle.drv_compile.specs.Passed.{libraries}
use Rattle.std.proofs.Common.{◌≡◌, ◌++◌, length}

abbrev pub invariant-loop-left : goal.invariant-loop-left
invariant-loop-left l = l.found ++ libraries l.left ≡ libraries l.words

abbrev pub decreases-loop-left : goal.decreases-loop-left
decreases-loop-left l = length l.left
