use Rattle.std.proofs.Common.{◌≤◌, ◌-◌, ◌<◌, length}
use Rattle.drv_cc.proofs.known.line_end.Given as goal

-- The place reached is not before the one given, and is within the text if that is.
abbrev pub invariant-loop-eight : goal.invariant-loop-eight
invariant-loop-eight l = (l.at ≤ l.end) × (l.at < length l.text → l.end ≤ length l.text)

abbrev pub decreases-loop-eight : goal.decreases-loop-eight
decreases-loop-eight l = length l.text - l.end
