use Rattle.drv_machine.proofs.Files.{file_ends, no_end}
use Rattle.drv_machine.proofs.Steps.{gives_as}
use Rattle.drv_machine.proofs.machine.Machine.end_file.Goals as goal
use Rattle.drv_machine.specs.Code.Running.{reached}
use Rattle.drv_system.proofs.AskedCalls.{asked_further, extends_before}
use Rattle.std.proofs.Common.{ap, rules, ◌∙◌}

-- Names: `n`: how many items were reached. `F`: what is known of the outside. `e`: that `F` extends the facts of this call. `reached n s`:
-- the machine s where n items were reached. `no_end`: where the break is refused, so is the end. `gives_as`: a result that gives one answer
-- gives another that is equal to it.

-- the word that is open can't end: its look-up has a fault
pub returns-in_err-end_word-clause-does : goal.returns-in_err-end_word-clause-does
returns-in_err-end_word-clause-does g c n F e =
    let failed = no_end F c.args.context.now (reached n c.args.self.now) c.in_err-end_word.field-0.0 (c.in_err-end_word.ensures.does n F e)
    in
    let handed = c.from_residual.ensures in search rules

-- the last word of the file ends, and the file's name is put
pub returns-clause-does : goal.returns-clause-does
returns-clause-does g c n F e =
    gives_as (reached n c.put_file.new.self) c.put_file.result _ _
    (file_ends F c.args.context.now (reached n c.args.self.now) (reached n c.end_word.new.self) (reached n c.leave_file-words.new.self)
    c.as_slice.result.now (c.in_ok-end_word.ensures.does n F (extends_before c.put_file.ensures.asks e))
    (c.as_slice.ensures ∙ c.leave_file-words.ensures.words) (ap (reached n) c.leave_file-words.ensures.left))
    (c.put_file.ensures.does n F e)

-- what was asked, where the word can't end
pub returns-in_err-end_word-clause-asks : goal.returns-in_err-end_word-clause-asks
returns-in_err-end_word-clause-asks g c = c.end_word.ensures.asks

-- what was asked for the word and for the file's name
pub returns-clause-asks : goal.returns-clause-asks
returns-clause-asks g c = asked_further c.end_word.ensures.asks c.put_file.ensures.asks
