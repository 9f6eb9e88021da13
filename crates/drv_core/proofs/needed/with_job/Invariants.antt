use Rattle.drv_core.proofs.needed.with_job.Given as goal
use Rattle.drv_core.specs.Needed.{fitting, job_events}
use Rattle.std.proofs.Common.{◌≡◌, ◌+◌, ◌*◌, Some, drop, length}
use Rattle.std.specs.List.{sum_by}

-- the count so far plus the groups that are left is the whole
abbrev pub invariant-loop-group : goal.invariant-loop-group
invariant-loop-group l = record {
  counted : l.total + sum_by (λ group. 4 * length group) (drop l.group-index l.group-items) ≡ l.before + job_events l.job;
  fits : fitting l.total ≡ Some l.total;
}
