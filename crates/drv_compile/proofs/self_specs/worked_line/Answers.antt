use Rattle.drv_compile.proofs.Given.{alike, context_made, prefixes_made}
use Rattle.drv_compile.proofs.self_specs.worked_line.Goals as goal
use Rattle.drv_compile.specs.SelfSpecs.{of_outcome, worked_for}
use Rattle.drv_machine.specs.Outcome.{outcome}
use Rattle.drv_plan.specs.Denoted.{of_text}
use Rattle.drv_syntax.specs.Parsed.{tree_of}
use Rattle.std.proofs.Common.{◌∙◌, Ok}

-- The context is that of the line and its prefixes (`context_made`), and the text gives its job in it.
pub returns-clause-works : goal.returns-clause-works
returns-clause-works g c F e known =
    alike _ c.worked_in.result (of_outcome (of_text (outcome F c.in_ok-context.context (tree_of c.args.text.now))))
    (worked_for F c.args.own.now.settings.now c.args.own.now.set.now c.args.text.now (Ok c.args.line.now))
    (prefixes_made F c.args.own.now.settings.now c.args.own.now.set.now c.args.text.now c.args.line.now c.args.own.now.prefixes.now known
    ∙ context_made F c.args.own.now.set.now c.args.text.now c.args.line.now c.args.own.now.prefixes.now c.in_ok-context.context
    c.in_ok-context.ensures)
    (c.worked_in.ensures.works F e)
