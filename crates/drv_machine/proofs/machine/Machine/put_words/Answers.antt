use Rattle.drv_machine.proofs.Lists.{next_failed, next_put}
use Rattle.drv_machine.proofs.Steps.{fails_as}
use Rattle.drv_machine.proofs.machine.Machine.put_words.Goals as goal
use Rattle.drv_machine.specs.Code.Running.{reached, run}
use Rattle.drv_machine.specs.Working.{puts}
use Rattle.drv_machine.specs.Working.{whole_word}
use Rattle.drv_system.proofs.AskedCalls.{asked_further, extends_before}
use Rattle.std.proofs.Common.{arith, rules, sym, ◌∙◌}
use Rattle.std.specs.List.{flat_map}

-- Names: `n`: how many items were reached. `F`: what is known of the outside. `e`: that `F` extends the facts of this call. `reached n s`:
-- the machine s where n items were reached. `whole_word`: a word with an opening before it and a break after it. `asked_further`: calls
-- that only asked, one after another.

-- one word is put, and the others are left
pub loop-word-preserved : goal.loop-word-preserved
loop-word-preserved g c = record {
  asks = asked_further c.loop-word.invariant.asks c.put_word.ensures.asks;
  left = λ n F e.
      next_put F c.args.context.now whole_word (reached n c.loop-word.self) (reached n c.put_word.new.self) c.args.list.now
      c.loop-word.word-index c.word-item.result c.as_bytes.result.now (omega arith) c.word-item.is c.as_bytes.ensures
      (c.in_ok-put_word.ensures.does n F e) ∙ c.loop-word.invariant.left n F (extends_before c.put_word.ensures.asks e);
}

-- a word can't be put
pub returns-in_err-put_word-clause-does : goal.returns-in_err-put_word-clause-does
returns-in_err-put_word-clause-does g c n F e =
    let failed = next_failed F c.args.context.now whole_word (reached n c.loop-word.self) (reached n c.put_word.new.self) c.args.list.now
    c.loop-word.word-index c.word-item.result c.as_bytes.result.now (omega arith) c.word-item.is c.as_bytes.ensures
    c.in_err-put_word.field-0.0 (c.in_err-put_word.ensures.does n F e) in
    let whole = fails_as _ (run F c.args.context.now (reached n c.args.self.now) (puts (flat_map whole_word c.args.list.now))) failed
    (λ x. sym (c.loop-word.invariant.left n F (extends_before c.put_word.ensures.asks e)) ∙ x) in
    let f = c.from_residual.ensures in
    search rules

-- what was asked, where a word can't be put
pub returns-in_err-put_word-clause-asks : goal.returns-in_err-put_word-clause-asks
returns-in_err-put_word-clause-asks g c = asked_further c.loop-word.invariant.asks c.put_word.ensures.asks

-- what was asked for all words
pub returns-clause-asks : goal.returns-clause-asks
returns-clause-asks g c = c.loop-word.invariant.asks
