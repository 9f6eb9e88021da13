use Rattle.drv_compile.proofs.Names.{read_named, read_unnamed}
use Rattle.drv_compile.proofs.reading.read_by.Goals as goal
use Rattle.drv_system.proofs.AskedCalls.{asked_further, extends_before}

-- Names: `is`: the clause's equation. `asked_further`: calls that only asked, one after another. `extends_before`: what extends the facts
-- after a call extends those before it. `read_named`: `read_by` answers by the items that it read with the names.

pub returns-in_default-clause-reading : goal.returns-in_default-clause-reading
returns-in_default-clause-reading g c words is F e =
    read_unnamed F c.args.specs.now c.args.around.now words c.in_ok-named.named (c.in_ok-named.ensures.items words is F e) c.in_default.is

-- the file of the names is whole: the answer is by its names
pub returns-clause-reading : goal.returns-clause-reading
returns-clause-reading g c words is F e =
    read_named F c.args.specs.now c.args.around.now words c.in_ok-named.named c.in-Some.items c.in_ok-answer.answer c.in_ok-known.known
    (c.in_ok-named.ensures.items words is F (extends_before c.known_answer.ensures.asks (extends_before c.names_kept.ensures.asks e)))
    c.in-Some.is
    (λ known are. c.in_ok-answer.ensures.answer known words are F (extends_before c.names_kept.ensures.asks e))
    (c.in_ok-known.ensures.names F e)

pub returns-in_err-known-clause-asks : goal.returns-in_err-known-clause-asks
returns-in_err-known-clause-asks g c = asked_further
    (asked_further c.items_beside.ensures.asks c.known_answer.ensures.asks) c.names_kept.ensures.asks

pub returns-clause-asks : goal.returns-clause-asks
returns-clause-asks g c = asked_further (asked_further c.items_beside.ensures.asks c.known_answer.ensures.asks) c.names_kept.ensures.asks
