use Rattle.drv_check.proofs.judging.push_all.Given as goal
use Rattle.std.proofs.Common.{◌≡◌}

-- No warning changes the faults.
abbrev pub invariant-loop-mark : goal.invariant-loop-mark
invariant-loop-mark l = l.findings ≡ l.fn.findings
