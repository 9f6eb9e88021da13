use Rattle.drv_compile.proofs.Names.{known_ended, known_refused}
use Rattle.drv_compile.proofs.reading.known_answer.Goals as goal
use Rattle.std.proofs.Common.{rules}

-- The first answer is no refusal, so nothing was asked.
pub returns-in_default : goal.returns-in_default
returns-in_default g c =
    record {
      asks = search rules;
      answer = λ known words is F e.
          known_ended F known c.args.around.now words c.args.items.now c.in_ok-answer.answer is c.in_ok-answer.ensures
          c.in_default.not-Refuse;
    }

-- the first answer is a refusal: the names in the spec files may still change it
pub returns-clause-answer : goal.returns-clause-answer
returns-clause-answer g c known words is F e =
    known_refused F known c.args.around.now words c.args.items.now c.in_ok-answer.answer c.in-Refuse.refusals c.as_slice.result.now
    c.refused_answer.result is c.in_ok-answer.ensures
    c.in-Refuse.is c.as_slice.ensures (c.refused_answer.ensures.answer known words is F e)
