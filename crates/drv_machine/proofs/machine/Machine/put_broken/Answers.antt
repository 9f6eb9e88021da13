use Rattle.drv_machine.proofs.Cutter.{put_failed, put_last}
use Rattle.drv_machine.proofs.machine.Machine.put_broken.Goals as goal
use Rattle.drv_machine.specs.Code.Running.{reached}
use Rattle.drv_machine.specs.Working.{Break, Put}
use Rattle.std.proofs.Common.{[], ◌∷◌, map, rules}

-- Names: `n`: how many items were reached. `F`: what is known of the outside. `e`: that `F` extends the facts of this call. `reached n s`:
-- the machine s where n items were reached. `put_failed`: where the first part of a list is refused, the whole is.

-- no memory for the bytes
pub returns-in_err-put-clause-does : goal.returns-in_err-put-clause-does
returns-in_err-put-clause-does g c n F e =
    let failed = put_failed F c.args.context.now (reached n c.args.self.now) (map Put c.args.word.now) (Break ∷ []) c.in_err-put.field-0.0
    (c.in_err-put.ensures n F c.args.context.now) in
    let handed = c.from_residual.ensures in search rules

-- the bytes are put, and the word ends
pub returns-clause-does : goal.returns-clause-does
returns-clause-does g c n F e =
    put_last F c.args.context.now (reached n c.args.self.now) (reached n c.put.new.self) (reached n c.end_word.new.self)
    (map Put c.args.word.now) (Break ∷ []) c.end_word.result (c.in_ok-put.ensures n F c.args.context.now) (c.end_word.ensures.does n F e)
