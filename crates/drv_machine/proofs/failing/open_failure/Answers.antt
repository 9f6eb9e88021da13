use Rattle.drv_machine.proofs.FailureFiles.{from_begun}
use Rattle.drv_machine.proofs.Onward.{too_deep}
use Rattle.drv_machine.proofs.failing.open_failure.Goals as goal
use Rattle.drv_machine.specs.Code.Running.{reached}
use Rattle.std.proofs.Common.{refl, rules}

-- Names: `n`: how many items were reached. `F`: what is known of the outside. `given`: what the walk gives in the end. `b`: the clause's
-- condition `Following`. `reached n s`: the machine s where n items were reached. `from_begun`: the %W is opened, or its beginning is
-- refused for lack of memory.

-- too many parts are open
pub returns-in_err-push-clause-does : goal.returns-in_err-push-clause-does
returns-in_err-push-clause-does c n F C brace given b =
    let failed = too_deep F C c.args.walk.now.text.now c.args.walk.now (reached n c.args.machine.now) given c.args.end _ b refl
    c.in_err-push.field-0.0 c.in_err-push.ensures.err in
    let f = c.from_residual.ensures in
    search rules

-- the %W is open, and its end makes its last word a failure file
pub returns-clause-does : goal.returns-clause-does
returns-clause-does c n F C brace given b =
    from_begun F C c.args.walk.now.text.now c.args.walk.now (reached n c.args.machine.now) c.args.end brace given b
    c.in_ok-push.ensures.room c.begin_failure.result (reached n c.begin_failure.new.self) (c.begin_failure.ensures.does n F C)
    _ refl refl c.in_ok-push.ensures.ok
