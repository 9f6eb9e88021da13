use Rattle.drv_check.proofs.judging.judge.Given as goal
use Rattle.std.proofs.Common.{◌≡◌}

-- No warning changes the check.
abbrev pub invariant-loop-warned : goal.invariant-loop-warned
invariant-loop-warned l = l.checking ≡ l.fn.checking
