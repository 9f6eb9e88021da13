use Rattle.drv_machine.proofs.FailureFiles.{closed_none, closed_some}
use Rattle.drv_machine.proofs.machine.Machine.close_inside.Goals as goal
use Rattle.drv_machine.specs.Code.Running.{reached}
use Rattle.drv_machine.specs.contracts.machine.Machine.{the_view}

-- Names: `n`: how many items were reached. `F`: what is known of the outside. `reached n s`: the machine s where n items were reached.
-- `closed_none`: the state after the end of a %W in which no word ended.

-- no word ended in the innermost %W, or none is open
pub returns-in_default-clause-does : goal.returns-in_default-clause-does
returns-in_default-clause-does c n F C =
    rw (← c.self.view_is) (closed_none F C (reached n (the_view c.self.inside)) c.close.new.self c.in_ok-word.field-0 c.in_ok-word.ensures
    c.in_default.is)

-- the last word of the innermost %W is a failure file
pub returns-clause-does : goal.returns-clause-does
returns-clause-does c n F C =
    rw (← c.self.view_is) (closed_some F C (reached n (the_view c.self.inside)) c.close.new.self c.in_ok-word.field-0 c.in_ok-word.ensures
    c.in-Some.word c.in-Some.is c.push.new.self c.in_ok-push.ensures.ok)
