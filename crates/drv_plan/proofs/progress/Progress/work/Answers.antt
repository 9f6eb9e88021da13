use Rattle.drv_plan.proofs.Steps.{text_worked}
use Rattle.drv_plan.proofs.progress.Progress.work.Goals as goal
use Rattle.std.proofs.Common.{◌∙◌}

-- Names: `F`: what is known of the outside. `e`: that `F` extends the facts of this call. `text_worked`: a text gives its job, and its
-- options and numbers go on to the next text.

pub returns-clause-works : goal.returns-clause-works
returns-clause-works g c F e =
    text_worked F c.args.text.now c.args.self.now c.go_on.new.self c.in_ok-done.done c.into_job.result (c.in_ok-done.ensures.works F e)
    c.in_ok-go_on.ensures.keeps (c.into_job.ensures ∙ c.go_on.ensures.job)
