use Rattle.std.proofs.Common.{◌≤◌, ◌-◌, length}
use Rattle.drv_cc.proofs.known.near_end.Given as goal

-- The place reached is not before the one given, and is within the text if that is.
abbrev pub invariant-loop-end : goal.invariant-loop-end
invariant-loop-end l = (l.at ≤ l.end) × (l.at ≤ length l.text → l.end ≤ length l.text)

abbrev pub decreases-loop-end : goal.decreases-loop-end
decreases-loop-end l = length l.text - l.end
