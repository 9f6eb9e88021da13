use Rattle.drv_compile.proofs.nearest.after_equals.Given as goal
use Rattle.drv_compile.specs.Near.{after_equals}
use Rattle.std.proofs.Common.{◌≡◌, length}

abbrev pub invariant-loop-left : goal.invariant-loop-left
invariant-loop-left l = after_equals l.left ≡ after_equals l.word

abbrev pub decreases-loop-left : goal.decreases-loop-left
decreases-loop-left l = length l.left
