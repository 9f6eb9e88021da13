use Rattle.drv_core.proofs.Needs.{all_counted, all_jobs}
use Rattle.drv_core.proofs.needed.events_needed.Goals as goal
use Rattle.drv_core.specs.Needed.{job_events, needed}
use Rattle.drv_words.specs.declared.plan.Plan.{Plan}
use Rattle.std.proofs.Common.{◌≡◌, ◌+◌, ◌∙◌, None, ap, add-zero, sym}
use Rattle.std.specs.Option.{option_to_list}
use Rattle.std.specs.List.{sum_by}

-- Names: `job_events`: the most events of a run (this project's profile). `needed`: the most events of all jobs and of the link.

-- without a link the jobs need what the plan needs
only_jobs : (plan : Plan) → plan.link ≡ None → sum_by job_events plan.jobs ≡ needed plan
only_jobs plan none =
    let rest : sum_by job_events (option_to_list plan.link) ≡ 0 = ap (λ l. sum_by job_events (option_to_list l)) none in
    sym (all_jobs plan ∙ ap (λ n. sum_by job_events plan.jobs + n) rest ∙ add-zero (sum_by job_events plan.jobs))

-- without a link the sources' events are all
pub returns-in-None : goal.returns-in-None
returns-in-None c = all_counted job_events c.as_slice-job-items.result.now c.loop-job.job-index c.loop-job.total
    (needed c.args.plan.now) c.loop-job-test.false (c.loop-job.invariant.counted
    ∙ ap (λ l. sum_by job_events l) c.as_slice-job-items.ensures ∙ only_jobs c.args.plan.now c.in-None.is) c.loop-job.invariant.fits
