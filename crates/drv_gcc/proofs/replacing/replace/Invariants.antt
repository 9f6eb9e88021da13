use Rattle.drv_gcc.proofs.replacing.replace.Given as goal
use Rattle.drv_gcc.specs.Replacing.{replaced}
use Rattle.std.proofs.Common.{◌≡◌, ◌++◌, length}

abbrev pub invariant-loop-left : goal.invariant-loop-left
invariant-loop-left l = l.word ++ replaced l.form l.other l.skip l.left ≡ replaced l.form l.other 0 l.text

abbrev pub decreases-loop-left : goal.decreases-loop-left
decreases-loop-left l = length l.left
