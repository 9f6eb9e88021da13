use Rattle.drv_core.proofs.source.widest.Given as goal
use Rattle.std.proofs.Common.{◌<◌, ◌≤◌, [], get_or, length, ℕ}

-- the greatest so far and that of the groups that are left give the greatest of all; no group so far is empty
abbrev pub invariant-loop-group : goal.invariant-loop-group
invariant-loop-group l = record {
  most : (g : ℕ) → g < l.group-index → length (get_or l.group-items g []) ≤ l.most;
  filled : (g : ℕ) → g < l.group-index → 0 < length (get_or l.group-items g []);
}
