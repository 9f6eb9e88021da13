use Rattle.drv_compile.proofs.Ran.{many_end, planning_ends}
use Rattle.drv_compile.proofs.running.line_work.Goals as goal

-- Names: `F`: what is known of the outside. `e`: that `F` extends the facts of this call. `known`: the clause's equation. `many_end`: the
-- ending is what `refuse_several` answers. `planning_ends`: the ending is what `work_of` answers.

pub returns-in_err-refuse_several-clause-works : goal.returns-in_err-refuse_several-clause-works
returns-in_err-refuse_several-clause-works g c F e known =
    many_end F c.args.given.now.line.now c.args.given.now.set.now c.args.given.now.seed c.in_err-refuse_several.field-0.0
    c.from_residual.result c.from_residual.ensures.1 c.in_err-refuse_several.ensures

-- the work is refused: so is the line
pub returns-in_err-work-clause-works : goal.returns-in_err-work-clause-works
returns-in_err-work-clause-works g c F e known =
    planning_ends F c.args.given.now.line.now c.args.given.now.set.now c.args.given.now.seed c.in_err-work.field-0.0
    c.from_residual-in_err-work.result c.from_residual-in_err-work.ensures.1 c.in_ok-refuse_several.ensures
    (c.in_err-work.ensures.works F e known)

pub returns-clause-works : goal.returns-clause-works
returns-clause-works g c F e known = (c.in_ok-refuse_several.ensures, c.in_ok-work.ensures.works F e known)
