use Rattle.drv_machine.proofs.failing.work_failure.Goals as goal
use Rattle.std.proofs.Common.{rules}

-- Names: `n`: how many items were reached. `F`: what is known of the outside. `given`: what the walk gives in the end. `e`: that `F`
-- extends the facts of this call. `s`, `b`: the clause's conditions `Stands` and `Following`.

-- the %W can't be opened
pub returns-in_err-open_failure-clause-does : goal.returns-in_err-open_failure-clause-does
returns-in_err-open_failure-clause-does g c n F e brace given s b =
    let failed = c.in_err-open_failure.ensures.does n F c.args.context.now brace given b in
    let f = c.from_residual.ensures in
    search rules

-- the parts of the braces lie in the text, which is the same
pub work_brace-requires : goal.work_brace-requires
work_brace-requires g c = rw c.open_failure.ensures.same_text c.requires

-- the %W is open, and its braces are run in it
pub returns-clause-does : goal.returns-clause-does
returns-clause-does g c n F e brace given s b =
    c.work_brace.ensures.does n F e brace given (rw c.open_failure.ensures.same_text s)
    (c.in_ok-open_failure.ensures.does n F c.args.context.now brace given b)
