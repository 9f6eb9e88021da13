use Rattle.drv_check.proofs.origins.agree.Given as goal
use Rattle.drv_check.specs.Origins.{agree}
use Rattle.std.proofs.Common.{◌≡◌, length}

-- The spots that are left agree with the bytes left exactly if all agree.
abbrev pub invariant-loop-spots_left : goal.invariant-loop-spots_left
invariant-loop-spots_left l = agree l.sources l.spots_left l.bytes_left ≡ agree l.sources l.spots l.text

abbrev pub decreases-loop-spots_left : goal.decreases-loop-spots_left
decreases-loop-spots_left l = length l.spots_left
