use Rattle.drv_machine.proofs.filing.work_filed.Goals as goal
use Rattle.drv_system.proofs.AskedCalls.{asked_further, extends_before}
use Rattle.std.proofs.Common.{rules}

-- Names: `n`: how many items were reached. `F`: what is known of the outside. `given`: what the walk gives in the end. `e`: that `F`
-- extends the facts of this call. `s`, `b`: the clause's conditions `Stands` and `Following`. `asked_further`: calls that only asked, one
-- after another. `extends_before`: what extends the facts after a call extends those before it.

-- the %@ can't be opened
pub returns-in_err-open_filed-clause-does : goal.returns-in_err-open_filed-clause-does
returns-in_err-open_filed-clause-does g c n F e brace given s b =
    let failed = c.in_err-open_filed.ensures.does n F e brace given b in
    let f = c.from_residual.ensures in
    search rules

-- the parts of the braces lie in the text, which is the same
pub work_brace-requires : goal.work_brace-requires
work_brace-requires g c = rw c.open_filed.ensures.same_text c.requires

-- the %@ is open, and its braces are run in it
pub returns-clause-does : goal.returns-clause-does
returns-clause-does g c n F e brace given s b =
    c.work_brace.ensures.does n F e brace given (rw c.open_filed.ensures.same_text s)
    (c.in_ok-open_filed.ensures.does n F (extends_before c.work_brace.ensures.asks e) brace given b)

-- what was asked, where the %@ can't be opened
pub returns-in_err-open_filed-clause-asks : goal.returns-in_err-open_filed-clause-asks
returns-in_err-open_filed-clause-asks g c = c.open_filed.ensures.asks

-- what was asked for the beginning and for the braces
pub returns-clause-asks : goal.returns-clause-asks
returns-clause-asks g c = asked_further c.open_filed.ensures.asks c.work_brace.ensures.asks
