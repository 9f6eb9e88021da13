use Rattle.drv_core.proofs.needed.events_needed.Given as goal
use Rattle.drv_core.specs.Needed.{fitting, job_events}
use Rattle.std.proofs.Common.{◌≡◌, ◌+◌, Some, drop}
use Rattle.std.specs.List.{sum_by}

-- the count so far plus the jobs that are left is the whole
abbrev pub invariant-loop-job : goal.invariant-loop-job
invariant-loop-job l = record {
  counted : l.total + sum_by job_events (drop l.job-index l.job-items) ≡ sum_by job_events l.job-items;
  fits : fitting l.total ≡ Some l.total;
}
