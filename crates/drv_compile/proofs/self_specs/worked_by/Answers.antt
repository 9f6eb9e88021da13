use Rattle.drv_compile.proofs.Given.{alike, no_text, text_there}
use Rattle.drv_compile.proofs.self_specs.worked_by.Goals as goal
use Rattle.drv_compile.specs.Runs.{line_given}
use Rattle.drv_compile.specs.SelfSpecs.{worked_by, worked_for}
use Rattle.drv_specs.specs.Sets.{text_of}

-- The set has the text, so its work is that for this text (`text_there`).
pub returns-in-Some-clause-works : goal.returns-in-Some-clause-works
returns-in-Some-clause-works g c F e known =
    alike _ c.worked_for.result (worked_for F c.args.own.now.settings.now c.args.own.now.set.now c.in-Some.text.now
    (line_given c.args.seen.now))
    (worked_by F c.args.own.now.settings.now c.args.own.now.set.now (line_given c.args.seen.now)
    (text_of c.args.own.now.set.now c.args.name.now))
    (text_there _ c.tree.result c.in-Some.text F c.args.own.now.settings.now c.args.own.now.set.now
    (line_given c.args.seen.now) _ c.tree.ensures c.in-Some.is)
    (c.worked_for.ensures.works F e known)

pub returns-in-None-clause-works : goal.returns-in-None-clause-works
returns-in-None-clause-works g c F e known =
    no_text _ c.tree.result F c.args.own.now.settings.now c.args.own.now.set.now
    (line_given c.args.seen.now) _ c.tree.ensures c.in-None.is
