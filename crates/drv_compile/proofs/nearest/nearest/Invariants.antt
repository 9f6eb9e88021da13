use Rattle.drv_compile.proofs.nearest.nearest.Given as goal
use Rattle.std.proofs.Common.{◌<◌, IfSome, length}

-- The nearest name so far is one of the known names.
abbrev pub invariant-loop-place : goal.invariant-loop-place
invariant-loop-place l = IfSome l.found (λ near. near.place < length l.known)
