use Rattle.drv_compile.specs.Calling.{last_from}
use Rattle.std.proofs.Common.{◌≡◌, length}
use Rattle.drv_compile.proofs.calling.last_part.Given as goal

abbrev pub invariant-loop-left : goal.invariant-loop-left
invariant-loop-left l = last_from l.part l.left ≡ last_from l.path l.path

abbrev pub decreases-loop-left : goal.decreases-loop-left
decreases-loop-left l = length l.left
