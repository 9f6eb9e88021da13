use Rattle.drv_compile.proofs.Given.{seen_by, work_answers, work_ends}
use Rattle.drv_compile.proofs.self_specs.answer_of_specs.Goals as goal
use Rattle.drv_system.proofs.AskedCalls.{extends_before}

-- Names: `F`: what is known of the outside. `e`: that `F` extends the facts of this call. `seen_by`: the items that `answer_of_specs` sees,
-- by the words that it lends. `work_answers`: `answer_of_specs` answers by what the work gave.

-- the spec files are refused: so is the line
pub returns-in_err-worked-clause-answer : goal.returns-in_err-worked-clause-answer
returns-in_err-worked-clause-answer g c F e =
    work_ends F c.args.line.now c.args.first.now c.in_ok-items.items c.in_err-worked.field-0.0 c.from_residual-in_err-worked.result
    (seen_by c.args.line.now _ _ _ c.as_bytes-known.ensures c.as_slice.ensures c.in_ok-items.ensures)
    c.from_residual-in_err-worked.ensures.1 (c.in_err-worked.ensures.works F e)

-- the answer is by what the spec files gave
pub returns-clause-answer : goal.returns-clause-answer
returns-clause-answer g c F e =
    work_answers F c.args.line.now c.args.first.now c.in_ok-items.items c.in_ok-worked.worked c.in_ok-answer.answer
    (seen_by c.args.line.now _ _ _ c.as_bytes-known.ensures c.as_slice.ensures c.in_ok-items.ensures)
    (c.in_ok-worked.ensures.works F (extends_before c.answer_by.ensures.asks e)) (c.in_ok-answer.ensures.answer F e)
