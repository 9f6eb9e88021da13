use Rattle.drv_forms.specs.Shell.{inside}
use Rattle.std.proofs.Common.{◌≡◌, ◌++◌, length}
use Rattle.drv_forms.proofs.shell.push_inside.Given as goal

abbrev pub invariant-loop-left : goal.invariant-loop-left
invariant-loop-left l = l.text.items ++ inside l.stem l.variable 0 l.left ≡ l.fn.text.items ++ inside l.stem l.variable 0 l.word

-- each turn takes a byte or a stem, so the loop ends
abbrev pub decreases-loop-left : goal.decreases-loop-left
decreases-loop-left l = length l.left
