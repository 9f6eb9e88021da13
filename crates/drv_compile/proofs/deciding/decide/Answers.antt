use Rattle.drv_compile.proofs.Decided.{decided_so}
use Rattle.drv_compile.proofs.deciding.decide.Goals as goal
use Rattle.drv_system.proofs.AskedCalls.{extends_before}

-- Names: `decided_so`: `decide` takes its own place twice, since the look for the spec file uses the first copy up. `extends_before`: what
-- extends the facts after a call extends those before it.

-- the spec file was looked for, so the decision is the one with what was found
pub returns-clause-decision : goal.returns-clause-decision
returns-clause-decision g c F e =
    decided_so F c.args.own.now c.args.words.now c.in_ok-place.place c.in_ok-found.found c.in_ok-place-2.place c.decided_with.result
    c.in_ok-place.ensures (c.in_ok-found.ensures.path F (extends_before c.decided_with.ensures.asks e)) c.in_ok-place-2.ensures
    (c.decided_with.ensures.decision F e)
