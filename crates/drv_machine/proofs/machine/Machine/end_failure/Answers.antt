use Rattle.drv_machine.proofs.Cutter.{put_failed, put_last}
use Rattle.drv_machine.proofs.machine.Machine.end_failure.Goals as goal
use Rattle.drv_machine.specs.Code.Running.{reached}
use Rattle.drv_machine.specs.Working.{Break, To}
use Rattle.std.proofs.Common.{[], ◌∷◌, rules}

-- Names: `n`: how many items were reached. `F`: what is known of the outside. `e`: that `F` extends the facts of this call. `reached n s`:
-- the machine s where n items were reached. `put_failed`: where the first part of a list is refused, the whole is.

-- the word that is open can't end: its look-up has a fault
pub returns-in_err-end_word-clause-does : goal.returns-in_err-end_word-clause-does
returns-in_err-end_word-clause-does g c n F e =
    let failed = put_failed F c.args.context.now (reached n c.args.self.now) (Break ∷ []) (To ∷ []) c.in_err-end_word.field-0.0
    (c.in_err-end_word.ensures.does n F e) in
    let handed = c.from_residual.ensures in search rules

-- the word that is open ends, and so does the innermost %W
pub returns-clause-does : goal.returns-clause-does
returns-clause-does g c n F e =
    put_last F c.args.context.now (reached n c.args.self.now) (reached n c.end_word.new.self) (reached n c.close_inside.new.self)
    (Break ∷ []) (To ∷ []) c.close_inside.result (c.in_ok-end_word.ensures.does n F e) (c.close_inside.ensures.does n F c.args.context.now)
