use Rattle.drv_machine.proofs.Functions.{value_failed, value_none, value_put}
use Rattle.drv_machine.proofs.machine.Machine.put_value.Goals as goal
use Rattle.drv_machine.specs.Code.Running.{reached}
use Rattle.std.proofs.Common.{rules}

-- Names: `n`: how many items were reached. `F`: what is known of the outside. `e`: that `F` extends the facts of this call. `reached n s`:
-- the machine s where n items were reached. `value_failed`: where the call of an item's function is refused, so is the item. `value_none`:
-- where a function gives no value, nothing is put, as the definition says.

-- the function has a fault, or its arguments do
pub returns-in_err-word-clause-does : goal.returns-in_err-word-clause-does
returns-in_err-word-clause-does g c n F e =
    let failed = value_failed F c.args.context.now c.args.outer.value c.args.name.now (reached n c.args.self.now) c.in_err-word.field-0.0
    (c.in_err-word.ensures.does n F e) in
    let handed = c.from_residual.ensures in search rules

-- the function has no value
pub returns-in_default-clause-does : goal.returns-in_default-clause-does
returns-in_default-clause-does g c n F e =
    value_none F c.args.context.now c.args.outer.value c.args.name.now (reached n c.args.self.now) (reached n c.call_after.new.self)
    c.in_ok-word.field-0 c.in_default.is (c.in_ok-word.ensures.does n F e)

-- the function's value is put
pub returns-clause-does : goal.returns-clause-does
returns-clause-does g c n F e =
    value_put F c.args.context.now c.args.outer.value c.args.name.now (reached n c.args.self.now) (reached n c.call_after.new.self)
    (reached n c.put.new.self) c.in_ok-word.field-0 c.in-Some.word c.in-Some.is (c.in_ok-word.ensures.does n F e)
    c.put.result c.as_bytes.result.now c.as_bytes.ensures (c.put.ensures n F c.args.context.now)
