use Rattle.drv_machine.proofs.Cutter.{put_failed, put_last}
use Rattle.drv_machine.proofs.machine.Machine.put_apart.Goals as goal
use Rattle.drv_machine.specs.Code.Running.{reached}
use Rattle.drv_machine.specs.Working.{Break, words}
use Rattle.drv_system.proofs.AskedCalls.{asked_further, extends_before}
use Rattle.std.proofs.Common.{◌∷◌, [], rules}

-- Names: `n`: how many items were reached. `F`: what is known of the outside. `e`: that `F` extends the facts of this call. `reached n s`:
-- the machine s where n items were reached. `words`: the atoms of words, each whole.

-- the word that is open can't end: its look-up has a fault
pub returns-in_err-end_word-clause-does : goal.returns-in_err-end_word-clause-does
returns-in_err-end_word-clause-does g c n F e =
    let failed = put_failed F c.args.context.now (reached n c.args.self.now) (Break ∷ []) (words c.args.list.now)
    c.in_err-end_word.field-0.0 (c.in_err-end_word.ensures.does n F e) in
    let handed = c.from_residual.ensures in search rules

-- the open word ends, and then the words are put
pub returns-clause-does : goal.returns-clause-does
returns-clause-does g c n F e = put_last F c.args.context.now (reached n c.args.self.now) (reached n c.end_word.new.self)
    (reached n c.put_words.new.self) (Break ∷ []) (words c.args.list.now) c.put_words.result
    (c.in_ok-end_word.ensures.does n F (extends_before c.put_words.ensures.asks e)) (c.put_words.ensures.does n F e)

-- what was asked for the open word and for the words
pub returns-clause-asks : goal.returns-clause-asks
returns-clause-asks g c = asked_further c.end_word.ensures.asks c.put_words.ensures.asks
