use Rattle.drv_compile.proofs.Given.{alike, line_refused}
use Rattle.drv_compile.proofs.self_specs.worked_for.Goals as goal
use Rattle.drv_compile.specs.Runs.{line_given}
use Rattle.drv_compile.specs.SelfSpecs.{worked_for}
use Rattle.std.proofs.Common.{Ok, ap, refl}

-- Names: `F`: what is known of the outside. `e`: that `F` extends the facts of this call. `known`: the clause's equation. `line_given`: the
-- line that items of the driver denote, or why they are refused. `alike`: what answers one definition answers another that is the same.

-- the switches give no line: the text is refused as they are
pub returns-in_err-line-clause-works : goal.returns-in_err-line-clause-works
returns-in_err-line-clause-works g c F e known =
    line_refused c.in_err-line.field-0.0 (line_given c.args.seen.now)
    (worked_for F c.args.own.now.settings.now c.args.own.now.set.now c.args.text.now) c.from_residual.result refl
    c.from_residual.ensures.1 c.in_err-line.ensures.line

-- they give a line: the text gives what it gives that line
pub returns-clause-works : goal.returns-clause-works
returns-clause-works g c F e known =
    alike _ c.worked_line.result (worked_for F c.args.own.now.settings.now c.args.own.now.set.now c.args.text.now (Ok c.in_ok-line.line))
    (worked_for F c.args.own.now.settings.now c.args.own.now.set.now c.args.text.now (line_given c.args.seen.now))
    (ap (worked_for F c.args.own.now.settings.now c.args.own.now.set.now c.args.text.now) c.in_ok-line.ensures.line)
    (c.worked_line.ensures.works F e known)
