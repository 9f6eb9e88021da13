use Rattle.std.proofs.Common.{◌≤◌, ◌-◌, length}
use Rattle.drv_cc.proofs.known.near_place.Given as goal

-- The two bounds of the search are in order, and within the text.
abbrev pub invariant-loop-high : goal.invariant-loop-high
invariant-loop-high l = (l.low ≤ l.high) × (l.high ≤ length l.text)

abbrev pub decreases-loop-high : goal.decreases-loop-high
decreases-loop-high l = l.high - l.low
