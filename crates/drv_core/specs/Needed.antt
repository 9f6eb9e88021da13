use Rattle.drv_words.specs.declared.plan.Job.{Job}
use Rattle.drv_words.specs.declared.plan.Plan.{Plan}
use Rattle.std.specs.List.{sum_by}
use Rattle.std.specs.Option.{option_to_list}
use Rattle.std.specs.Prelude.{◌+◌, ◌*◌, ◌^◌, ◌++◌, None, Option, Some, if◌then◌else◌, length, nat_lt, ℕ}

-- The most events of a run (this project's profile): four for a command, which are its start and its wait, each with a report; two for the
-- claim of a temporary; and two for each path that can be removed.
abbrev pub job_events : Job → ℕ
job_events job = sum_by (λ group. 4 * length group) job.groups + 2 * length job.temps
    + 2 * (length job.temps + length job.marked + length job.on_failure)

-- the most events of all jobs and of the link
abbrev pub needed : Plan → ℕ
needed plan = sum_by job_events (plan.jobs ++ option_to_list plan.link)

-- a number that fits into `usize`
abbrev pub fitting : ℕ → Option ℕ
fitting n = if nat_lt n (2 ^ 64) then Some n else None
