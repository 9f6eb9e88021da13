use Rattle.drv_cc.proofs.keeping.kept_backwards.Given as goal
use Rattle.drv_cc.specs.Code.Staying.{Keeping, is_seen}
use Rattle.std.proofs.Common.{length}

-- Of the items behind those that are left these stay, the last one first, and their classes are those seen.
abbrev pub invariant-loop-left : goal.invariant-loop-left
invariant-loop-left l = Keeping l.items l.left l.stay.items (is_seen l.seen.keys (λ k. k))

abbrev pub decreases-loop-left : goal.decreases-loop-left
decreases-loop-left l = length l.left
