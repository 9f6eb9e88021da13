use Rattle.drv_run.proofs.Steps.{line_comes, loading_ends, planning_ends}
use Rattle.drv_run.proofs.deciding.work_of_line.Goals as goal
use Rattle.drv_run.specs.Drives.{work_of}
use Rattle.drv_system.proofs.AskedCalls.{asked_further, extends_before}
use Rattle.drv_system.proofs.Asking.{asks_extends, extends_then}
use Rattle.std.proofs.Common.{refl}

-- a spec file is refused: the call ends so
pub returns-in_err-set-clause-comes : goal.returns-in_err-set-clause-comes
returns-in_err-set-clause-comes g c F e args words gives reads =
    loading_ends F args c.args.seed words c.args.line.now c.in_err-set.field-0.0 c.from_residual-in_err-set.result
    c.from_residual-in_err-set.ensures.1 gives reads
    (c.in_err-set.ensures.loads F e (c.in_ok-prefixes.ensures.prefixes F (extends_before c.specs_along.ensures.asks e)))

-- The prefixes and the set stay known while the plan is made, so its refusal is the line's.
pub returns-in_err-work-clause-comes : goal.returns-in_err-work-clause-comes
returns-in_err-work-clause-comes g c F e args words gives reads =
    let worked = extends_then (asks_extends c.work_along.ensures.asks) e in
    let known = c.in_ok-prefixes.ensures.prefixes F (extends_before c.specs_along.ensures.asks worked) in
    line_comes F args c.args.seed words c.args.line.now c.in_ok-set.set c.from_residual-in_err-work.result gives reads
    (c.in_ok-set.ensures.loads F worked known)
    (planning_ends (work_of F c.args.line.now c.in_ok-set.set c.args.seed) c.in_err-work.field-0.0 c.from_residual-in_err-work.result
    c.from_residual-in_err-work.ensures.1 (c.in_err-work.ensures.works F e known))

-- words, line, specs and work are those that the arguments give
pub returns-clause-comes : goal.returns-clause-comes
returns-clause-comes g c F e args words gives reads =
    let worked = extends_then (asks_extends c.work_along.ensures.asks) e in
    let known = c.in_ok-prefixes.ensures.prefixes F (extends_before c.specs_along.ensures.asks worked) in
    record {
      words = words;
      line = c.args.line.now;
      set = c.in_ok-set.set;
      gives = gives;
      reads = reads;
      loads = c.in_ok-set.ensures.loads F worked known;
      works = c.in_ok-work.ensures.works F e known;
    }

pub returns-in_err-work-clause-asks : goal.returns-in_err-work-clause-asks
returns-in_err-work-clause-asks g c = asked_further c.prefixes_of.ensures.asks
    (asked_further c.specs_along.ensures.asks (record { asks = c.work_along.ensures.asks; same_sys = refl; same_facts = refl }))

pub returns-clause-asks : goal.returns-clause-asks
returns-clause-asks g c = asked_further c.prefixes_of.ensures.asks
    (asked_further c.specs_along.ensures.asks (record { asks = c.work_along.ensures.asks; same_sys = refl; same_facts = refl }))
