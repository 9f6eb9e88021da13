use Rattle.drv_compile.proofs.Ran.{loading_ends, memory_ends, reading_ends, working_comes}
use Rattle.drv_compile.proofs.running.work_of_items.Goals as goal
use Rattle.drv_system.proofs.AskedCalls.{asked_further, extends_before}

-- Names: `F`: what is known of the outside. `e`: that `F` extends the facts of this call. `extends_before`: what extends the facts after a
-- call extends those before it. `asked_further`: calls that only asked, one after another. `loading_ends`: the ending is what `specs_of`
-- answers.

-- where the line is refused, the call stops with that fault
pub returns-in_err-line-clause-comes : goal.returns-in_err-line-clause-comes
returns-in_err-line-clause-comes g c F e =
    reading_ends F c.args.given.now c.args.seed c.in_err-line.field-0.0 c.from_residual.result c.from_residual.ensures.1
    c.in_err-line.ensures.line

-- where there is no memory for the prefixes, the call stops with that fault
pub returns-in_err-prefixes-clause-comes : goal.returns-in_err-prefixes-clause-comes
returns-in_err-prefixes-clause-comes g c F e =
    memory_ends F c.args.given.now c.args.seed c.from_residual-in_err-prefixes.result c.from_residual-in_err-prefixes.ensures.1

-- where a spec file is refused, the call stops with that fault
pub returns-in_err-set-clause-comes : goal.returns-in_err-set-clause-comes
returns-in_err-set-clause-comes g c F e =
    loading_ends F c.args.given.now c.args.seed c.in_ok-line.line c.in_err-set.field-0.0 c.from_residual-in_err-set.result
    c.from_residual-in_err-set.ensures.1
    c.in_ok-line.ensures.line
    (c.in_err-set.ensures.loads F e (c.in_ok-prefixes.ensures.prefixes F (extends_before c.specs_of.ensures.asks e)))

-- else the call does what the plan says, or stops with the plan's fault
pub returns-clause-comes : goal.returns-clause-comes
returns-clause-comes g c F e =
    let loaded = extends_before c.line_work-work.ensures.asks e in
    let known = c.in_ok-prefixes.ensures.prefixes F (extends_before c.specs_of.ensures.asks loaded) in
    working_comes F c.args.given.now c.args.seed c.in_ok-line.line c.in_ok-set.set c.line_work-work.result c.in_ok-line.ensures.line
    (c.in_ok-set.ensures.loads F loaded known) (c.line_work-work.ensures.works F e known)

-- the prefixes, the spec files and the plan are asked for one after the other
pub returns-clause-asks : goal.returns-clause-asks
returns-clause-asks g c = asked_further (asked_further c.prefixes_of.ensures.asks c.specs_of.ensures.asks) c.line_work-work.ensures.asks
