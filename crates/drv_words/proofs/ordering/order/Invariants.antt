use Rattle.drv_words.proofs.ordering.order.Given as goal
use Rattle.std.proofs.Common.{◌≡◌, length}
use Rattle.std.specs.Cmp.Lexicographic.{slice_cmp}
use Rattle.std.specs.Ordering.{nat_cmp}

-- what is left of both texts is ordered as the texts are
abbrev pub invariant-loop-front : goal.invariant-loop-front
invariant-loop-front l = slice_cmp nat_cmp l.left l.right ≡ slice_cmp nat_cmp l.one l.other

-- each turn leaves less of the first text, so the loop ends
abbrev pub decreases-loop-front : goal.decreases-loop-front
decreases-loop-front l = length l.left
