use Rattle.drv_compile.proofs.Names.{refused_again}
use Rattle.drv_compile.proofs.reading.refused_answer.Goals as goal
use Rattle.std.proofs.Common.{◌∙◌}

-- Names: `is`: the clause's equation.

-- With the unknown switches taken, the answer says which spec files the line names; by the names in these it is made again.
pub returns-clause-answer : goal.returns-clause-answer
returns-clause-answer g c known words is F e =
    refused_again F known c.args.around.now words c.args.refusals.now c.args.items.now c.as_slice.result.now c.in_ok-taken.taken
    c.in_ok-named.named c.as_slice-2.result.now c.answer-2.result is
    (c.as_slice.ensures ∙ c.in_ok-switches.ensures) c.in_ok-taken.ensures
    (c.in_ok-named.ensures.names F e) c.as_slice-2.ensures c.answer-2.ensures
