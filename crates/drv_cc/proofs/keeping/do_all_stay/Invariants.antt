use Rattle.drv_cc.proofs.keeping.do_all_stay.Given as goal
use Rattle.drv_cc.specs.Code.Staying.{KeepingAll, is_seen}
use Rattle.std.proofs.Common.{length}

-- The items behind those that are left all stay, and their classes are those seen.
abbrev pub invariant-loop-left : goal.invariant-loop-left
invariant-loop-left l = KeepingAll l.items l.left (is_seen l.seen.keys (λ k. k))

abbrev pub decreases-loop-left : goal.decreases-loop-left
decreases-loop-left l = length l.left
