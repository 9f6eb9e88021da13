use Rattle.drv_machine.proofs.Cutter.{pipe_failed, pipe_put}
use Rattle.drv_machine.proofs.machine.Machine.pipe.Goals as goal
use Rattle.drv_machine.specs.Code.Running.{reached}
use Rattle.std.proofs.Common.{ap, rules}

-- Names: `n`: how many items were reached. `F`: what is known of the outside. `e`: that `F` extends the facts of this call. `reached n s`:
-- the machine s where n items were reached. `pipe_failed`: where the end of its word is refused, so is a pipe.

-- the word that is open can't end: its look-up has a fault
pub returns-in_err-end_word-clause-does : goal.returns-in_err-end_word-clause-does
returns-in_err-end_word-clause-does g c n F e =
    let failed = pipe_failed F c.args.context.now (reached n c.args.self.now) c.in_err-end_word.field-0.0
    (c.in_err-end_word.ensures.does n F e) in
    let handed = c.from_residual.ensures in search rules

-- the word that is open ends, and a pipe follows
pub returns-clause-does : goal.returns-clause-does
returns-clause-does g c n F e = pipe_put F c.args.context.now (reached n c.args.self.now) (reached n c.end_word.new.self)
    (reached n c.close_with_pipe.new.self) (c.in_ok-end_word.ensures.does n F e) (ap (reached n) c.close_with_pipe.ensures)
