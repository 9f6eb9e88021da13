use Rattle.drv_compile.proofs.Given.{alike, line_refused, specs_go, specs_refused}
use Rattle.drv_compile.proofs.self_specs.text_worked.Goals as goal
use Rattle.drv_compile.specs.Runs.{line_given}
use Rattle.drv_compile.specs.SelfSpecs.{worked_by, worked_of}
use Rattle.drv_specs.specs.Sets.{text_of}
use Rattle.drv_system.proofs.AskedCalls.{asked_further, extends_before}
use Rattle.std.proofs.Common.{refl}

-- the first items give no line: the text is refused as they are
pub returns-in_err-line-clause-works : goal.returns-in_err-line-clause-works
returns-in_err-line-clause-works g c F e =
    line_refused c.in_err-line.field-0.0 (line_given c.args.first.now)
    (worked_of F c.args.name.now (line_given c.args.seen.now)) c.from_residual.result refl
    c.from_residual.ensures.1 c.in_err-line.ensures.line

-- a spec file of the line is refused: so is the text
pub returns-in_err-set-clause-works : goal.returns-in_err-set-clause-works
returns-in_err-set-clause-works g c F e =
    specs_refused c.in_err-set.field-0.0 F c.args.name.now c.in_ok-line.line (line_given c.args.seen.now)
    (line_given c.args.first.now) c.from_residual-in_err-set.result
    c.in_ok-line.ensures.line c.from_residual-in_err-set.ensures.1
    (c.in_err-set.ensures.loads F e (c.in_ok-prefixes.ensures.prefixes F (extends_before c.specs_of.ensures.asks e)))

-- The line and its set are known, so the work of the text by its name is that in this set (`specs_go`).
pub returns-clause-works : goal.returns-clause-works
returns-clause-works g c F e =
    let loaded = extends_before c.worked_by.ensures.asks e in
    let known = c.in_ok-prefixes.ensures.prefixes F (extends_before c.specs_of.ensures.asks loaded) in
    alike _ c.worked_by.result
    (worked_by F c.in_ok-line.line.settings c.in_ok-set.set (line_given c.args.seen.now)
    (text_of c.in_ok-set.set c.args.name.now))
    (worked_of F c.args.name.now (line_given c.args.seen.now) (line_given c.args.first.now))
    (specs_go F c.args.name.now c.in_ok-line.line c.in_ok-set.set (line_given c.args.seen.now)
    (line_given c.args.first.now) c.in_ok-line.ensures.line
    (c.in_ok-set.ensures.loads F loaded known))
    (c.worked_by.ensures.works F e known)

-- the prefixes, the spec files and the words of the text are asked for one after the other
pub returns-clause-asks : goal.returns-clause-asks
returns-clause-asks g c = asked_further (asked_further c.prefixes_of.ensures.asks c.specs_of.ensures.asks) c.worked_by.ensures.asks
