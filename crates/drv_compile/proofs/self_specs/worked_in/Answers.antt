use Rattle.drv_compile.proofs.Given.{text_refused, text_worked}
use Rattle.drv_compile.proofs.self_specs.worked_in.Goals as goal
use Rattle.drv_machine.specs.Outcome.{outcome}
use Rattle.drv_plan.specs.Denoted.{of_text}
use Rattle.drv_syntax.specs.Parsed.{tree_of}

-- Names: `F`: what is known of the outside. `e`: that `F` extends the facts of this call. `outcome`: what running a text gives. `of_text`:
-- the result of a text, where its refusal is that of the line.

pub returns-in_err-done-clause-works : goal.returns-in_err-done-clause-works
returns-in_err-done-clause-works g c F e =
    text_refused (of_text (outcome F c.args.context.now (tree_of c.args.text.now))) c.in_err-done.field-0.0 c.from_residual.result
    c.from_residual.ensures.1 (c.in_err-done.ensures.works F e)

pub returns-clause-works : goal.returns-clause-works
returns-clause-works g c F e =
    text_worked (of_text (outcome F c.args.context.now (tree_of c.args.text.now))) c.in_ok-done.done c.in_ok-of_job.field-0
    (c.in_ok-done.ensures.works F e) c.in_ok-of_job.ensures
