use Rattle.drv_plan.proofs.Steps.{refusal_given, source_refused, source_worked}
use Rattle.drv_plan.proofs.progress.Progress.add_source.Goals as goal
use Rattle.drv_plan.specs.Denoted.{with_source}

-- Names: `F`: what is known of the outside. `e`: that `F` extends the facts of this call. `refusal_given`: a refusal of a step is that of
-- the plan. `source_refused`: a source whose text is refused refuses the plan. `source_worked`: a source's job goes to the plan, and its
-- output to the link.

-- the source's text is refused: so is the source
pub returns-in_err-job-clause-works : goal.returns-in_err-job-clause-works
returns-in_err-job-clause-works g c F e =
    refusal_given c.in_err-job.field-0.0 c.from_residual.result _ (with_source F c.args.source.place c.args.source.of c.args.text.now
    c.args.self.now)
    c.from_residual.ensures.1
    (source_refused F c.args.source.place c.args.source.of c.args.text.now c.args.self.now c.set_input.new.self c.in_err-job.field-0.0
    c.set_input.ensures (c.in_err-job.ensures.works F e))

-- its text gave a job: that goes to the plan, and its output to the link
pub returns-clause-works : goal.returns-clause-works
returns-clause-works g c F e =
    source_worked F c.args.source.place c.args.source.of c.args.text.now c.args.self.now c.set_input.new.self c.in_ok-job.job
    c.of_source.result
    c.work.new.self c.add_job.new.self c.set_input.ensures (c.in_ok-job.ensures.works F e)
    c.of_source.ensures c.in_ok-add_job.ensures
