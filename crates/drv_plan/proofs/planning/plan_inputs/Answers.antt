use Rattle.drv_plan.proofs.Steps.{inputs_refused, inputs_worked, plan_finished, plan_refused, refusal_given, refused_alike}
use Rattle.drv_plan.proofs.planning.plan_inputs.Goals as goal
use Rattle.drv_plan.specs.Denoted.{finished, then_by, with_inputs}
use Rattle.drv_system.proofs.AskedCalls.{extends_before}
use Rattle.std.proofs.Common.{◌∙◌}

-- Names: `F`: what is known of the outside. `e`: that `F` extends the facts of this call. `finished`: the plan, once all inputs are done.
-- `then_by`: a step, and what follows it unless it is refused. `inputs_worked`: all inputs are done, and the rest of the plan follows.

-- the refusal of an input is that of the plan
pub returns-in_err-add_inputs-clause-works : goal.returns-in_err-add_inputs-clause-works
returns-in_err-add_inputs-clause-works g c F e =
    refusal_given c.in_err-add_inputs.field-0.0 c.from_residual.result _
    (then_by (with_inputs F c.args.set.now 0 c.args.inputs.now c.args.progress.now) (λ g'. finished F c.args.set.now g'))
    c.from_residual.ensures.1
    (inputs_refused F c.args.set.now c.args.inputs.now c.args.progress.now c.in_err-add_inputs.field-0.0
    (c.in_err-add_inputs.ensures.works F e))

-- the refusal of the link is that of the plan
pub returns-in_err-link-clause-works : goal.returns-in_err-link-clause-works
returns-in_err-link-clause-works g c F e =
    refusal_given c.in_err-link.field-0.0 c.from_residual-in_err-link.result _
    (then_by (with_inputs F c.args.set.now 0 c.args.inputs.now c.args.progress.now) (λ g'. finished F c.args.set.now g'))
    c.from_residual-in_err-link.ensures.1
    (refused_alike c.in_err-link.field-0.0 (finished F c.args.set.now c.add_inputs.new.progress) _
    (inputs_worked F c.args.set.now c.args.inputs.now c.args.progress.now c.add_inputs.new.progress
    (c.in_ok-add_inputs.ensures.works F (extends_before c.link_of.ensures.asks e)))
    (plan_refused F c.args.set.now c.add_inputs.new.progress c.in_err-link.field-0.0 (c.in_err-link.ensures.works F e)))

-- after the inputs the plan is finished with the link
pub returns-clause-works : goal.returns-clause-works
returns-clause-works g c F e =
    inputs_worked F c.args.set.now c.args.inputs.now c.args.progress.now c.add_inputs.new.progress
    (c.in_ok-add_inputs.ensures.works F (extends_before c.link_of.ensures.asks e))
    ∙ plan_finished F c.args.set.now c.add_inputs.new.progress c.link_of.new.progress c.in_ok-link.link c.in_ok-plan_of.field-0
    (c.in_ok-link.ensures.works F e) c.in_ok-plan_of.ensures
