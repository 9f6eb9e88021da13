use Rattle.drv_dump.proofs.ours.replace_forms.Given as goal
use Rattle.drv_dump.specs.Ours.{replaced}
use Rattle.std.proofs.Common.{◌≡◌, ◌++◌, length}

abbrev pub invariant-loop-left : goal.invariant-loop-left
invariant-loop-left l = l.word ++ replaced l.skip l.left ≡ l.fn.word ++ replaced 0 l.text

abbrev pub decreases-loop-left : goal.decreases-loop-left
decreases-loop-left l = length l.left
