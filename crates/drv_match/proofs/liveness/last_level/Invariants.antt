use Rattle.drv_match.proofs.liveness.last_level.Given as goal
use Rattle.drv_match.specs.Matching.{is_level, name_at}
use Rattle.std.proofs.Common.{◌≡◌, ◌<◌, ◌≤◌, false, length, ℕ}

-- from this place on no name is a level
abbrev pub invariant-loop-place : goal.invariant-loop-place
invariant-loop-place l = record {
  within : l.place ≤ length l.names;
  none : (i : ℕ) → l.place ≤ i → i < length l.names → is_level (name_at l.names i) ≡ false;
}

-- the place gets less each turn, so the loop ends
abbrev pub decreases-loop-place : goal.decreases-loop-place
decreases-loop-place l = l.place
