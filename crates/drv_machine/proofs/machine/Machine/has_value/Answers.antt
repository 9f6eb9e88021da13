use Rattle.drv_machine.proofs.Functions.{holds_as, holds_failed}
use Rattle.drv_machine.proofs.machine.Machine.has_value.Goals as goal
use Rattle.drv_machine.specs.Code.Running.{reached}
use Rattle.std.proofs.Common.{rules, sym}

-- Names: `n`: how many items were reached. `F`: what is known of the outside. `e`: that `F` extends the facts of this call. `reached n s`:
-- the machine s where n items were reached. `holds_as`: a test is true if the function has a value.

-- the function has a fault, or its arguments do
pub returns-in_err-given-clause-does : goal.returns-in_err-given-clause-does
returns-in_err-given-clause-does g c n F e =
    let failed = holds_failed F c.args.context.now c.args.outer.value c.args.name.now (reached n c.args.self.now) c.in_err-given.field-0.0
    (c.in_err-given.ensures.does n F e) in
    let handed = c.from_residual.ensures in search rules

-- the function was called: whether it has a value
pub returns-clause-does : goal.returns-clause-does
returns-clause-does g c n F e =
    holds_as F c.args.context.now c.args.outer.value c.args.name.now (reached n c.args.self.now) (reached n c.call_after.new.self)
    c.in_ok-given.given _ (sym c.is_some.ensures) (c.in_ok-given.ensures.does n F e)
