use Rattle.drv_compile.proofs.Decided.{specs_given}
use Rattle.drv_compile.proofs.deciding.decided_with.Goals as goal
use Rattle.drv_system.proofs.AskedCalls.{extends_before}

-- Names: `specs_given`: `decided_with` reads the file that names the compiler, by the bytes of the spec file's path. `extends_before`: what
-- extends the facts after a call extends those before it.

-- there is a spec file: the decision is by the file beside it that names the compiler
pub returns-clause-decision : goal.returns-clause-decision
returns-clause-decision g c F e =
    specs_given F c.args.own c.args.words.now c.args.found c.in-Some.specs c.as_bytes.result.now c.in_ok-text.text c.decided_over.result
    c.in-Some.is c.as_bytes.ensures (c.in_ok-text.ensures.lines F (extends_before c.decided_over.ensures.asks e))
    (c.decided_over.ensures.decision F e)
