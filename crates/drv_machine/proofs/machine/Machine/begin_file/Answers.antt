use Rattle.drv_machine.proofs.Files.{file_begins, no_beginning}
use Rattle.drv_machine.proofs.machine.Machine.begin_file.Goals as goal
use Rattle.drv_machine.specs.Code.Running.{reached}
use Rattle.std.proofs.Common.{ap, rules}

-- Names: `n`: how many items were reached. `F`: what is known of the outside. `e`: that `F` extends the facts of this call. `reached n s`:
-- the machine s where n items were reached. `no_beginning`: where the break is refused, so is the beginning.

-- the word that is open can't end: its look-up has a fault
pub returns-in_err-end_word-clause-does : goal.returns-in_err-end_word-clause-does
returns-in_err-end_word-clause-does g c n F e =
    let failed = no_beginning F c.args.context.now (reached n c.args.self.now) c.in_err-end_word.field-0.0
    (c.in_err-end_word.ensures.does n F e) in
    let handed = c.from_residual.ensures in search rules

-- the word that is open ends, and a file begins
pub returns-clause-does : goal.returns-clause-does
returns-clause-does g c n F e = file_begins F c.args.context.now (reached n c.args.self.now) (reached n c.end_word.new.self)
    (reached n c.enter_file.new.self) (c.in_ok-end_word.ensures.does n F e) (ap (reached n) c.enter_file.ensures)
