use Rattle.drv_compile.proofs.DriverCalls.{answer_told}
use Rattle.drv_compile.proofs.driving.answer.Goals as goal

-- Names: `F`: what is known of the outside. `e`: that `F` extends the facts of this call. `answer_told`: where the line's self spec can't
-- be carried out, there is no answer, and the driver's ending says why.

pub returns-in-Err-clause-answers : goal.returns-in-Err-clause-answers
returns-in-Err-clause-answers g c F e =
    answer_told F c.args.line.now _ c.args.first.now c.in-Err.ending c.stop_after.result c.as_bytes-name.ensures
    (c.in-Err.ensures.answer F e) c.stop_after.ensures
