use Rattle.drv_machine.proofs.Lists.{no_input}
use Rattle.drv_machine.proofs.Outputs.{outputs_put}
use Rattle.drv_machine.proofs.machine.Machine.put_outputs.Goals as goal
use Rattle.drv_machine.specs.Code.Running.{reached}
use Rattle.std.proofs.Common.{ap, sym, ◌∙◌}

-- Names: `n`: how many items were reached. `F`: what is known of the outside. `e`: that `F` extends the facts of this call. `reached n s`:
-- the machine s where n items were reached. `no_input`: a text has no input if the code says so.

-- the open word ends, and the outputs are put while they are out of the machine
pub returns-clause-does : goal.returns-clause-does
returns-clause-does g c n F e =
    let none = no_input c.input.result.now c.is_some.result c.is_some.ensures c.if-is_some.false in
    outputs_put F c.args.context.now (reached n c.args.self.now) (reached n c.take_outputs.new.self) (reached n c.put_apart-put.new.self)
    (reached n c.give_back.new.self) c.in_ok-outputs.outputs c.as_slice.result.now c.put_apart-put.result
    (sym c.input.ensures ∙ none) c.in_ok-outputs.ensures.taken c.as_slice.ensures (ap (reached n) c.in_ok-outputs.ensures.left)
    (ap (reached n) c.give_back.ensures) (c.put_apart-put.ensures.does n F e)
