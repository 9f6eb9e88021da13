use Rattle.drv_plan.specs.declared.fault.PlanFault.TheVariants as plan_fault
use Rattle.drv_run.proofs.Files.{refusal_given}
use Rattle.drv_run.proofs.Steps.{work_dumped, work_planned, work_refused}
use Rattle.drv_run.proofs.deciding.work_along.Goals as goal
use Rattle.drv_run.specs.Drives.{work_of}

-- Names: `F`: what is known of the outside. `e`: that `F` extends the facts of this call. `known`: the clause's equation. `refusal_given`:
-- a refusal of a step is that of the call. `work_planned`: without -dumpspecs the work is that of the plan. `work_refused`: without
-- -dumpspecs the plan's refusal is the work's.

-- with -dumpspecs the work is the dump of the specs
pub returns-then-given-clause-works : goal.returns-then-given-clause-works
returns-then-given-clause-works g c F e known =
    work_dumped F c.args.given.now.line.now c.args.given.now.set.now c.args.given.now.seed c.in_ok-dump.field-0 c.if-given.true
    c.in_ok-dump.ensures.text

-- without it a plan that is refused refuses the work
pub returns-in_err-plan-clause-works : goal.returns-in_err-plan-clause-works
returns-in_err-plan-clause-works g c F e known =
    refusal_given plan_fault.Memory c.in_err-plan.field-0.0 c.from_residual-in_err-plan.result _
    (work_of F c.args.given.now.line.now c.args.given.now.set.now c.args.given.now.seed) c.from_residual-in_err-plan.ensures.1
    (work_refused F c.args.given.now.line.now c.args.given.now.set.now c.args.given.now.seed c.in_err-plan.field-0.0 c.if-given.false
    (c.in_err-plan.ensures.plans F e known))

-- and a plan that is made is the work's
pub returns-clause-works : goal.returns-clause-works
returns-clause-works g c F e known =
    work_planned F c.args.given.now.line.now c.args.given.now.set.now c.args.given.now.seed c.in_ok-plan.plan c.work_with.result
    c.if-given.false (c.in_ok-plan.ensures.plans F e known) c.work_with.ensures
