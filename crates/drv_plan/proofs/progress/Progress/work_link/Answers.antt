use Rattle.drv_plan.proofs.Steps.{given_alike, link_set}
use Rattle.drv_plan.proofs.progress.Progress.work_link.Goals as goal
use Rattle.drv_plan.specs.Denoted.{for_link, worked}
use Rattle.std.proofs.Common.{ap}

-- Names: `F`: what is known of the outside. `e`: that `F` extends the facts of this call. `worked`: a text is run. `given_alike`: an answer
-- to one definition is an answer to an equal one.

-- the link's text is processed without an input and with all outputs
pub returns-clause-works : goal.returns-clause-works
returns-clause-works g c F e =
    given_alike _ c.work.result (worked F c.args.text.now
    (record c.args.self.now { context = c.set_outputs.new.self; outputs = c.replace-outputs.new.dest }))
    (worked F c.args.text.now (for_link c.args.self.now))
    (ap (worked F c.args.text.now) (link_set c.args.self.now c.set_input.new.self c.set_outputs.new.self c.replace-outputs.result
    c.replace-outputs.new.dest c.new.result c.set_input.ensures c.set_outputs.ensures
    c.replace-outputs.ensures.value c.replace-outputs.ensures.after c.new.ensures))
    (c.work.ensures.works F e)
