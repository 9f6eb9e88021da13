use Rattle.drv_machine.proofs.Lists.{next_failed, next_put}
use Rattle.drv_machine.proofs.Steps.{fails_as}
use Rattle.drv_machine.proofs.machine.Machine.put_all_broken.Goals as goal
use Rattle.drv_machine.specs.Atoms.{broken_word}
use Rattle.drv_machine.specs.Code.Running.{reached, run}
use Rattle.drv_machine.specs.Working.{puts}
use Rattle.drv_system.proofs.AskedCalls.{asked_further, extends_before}
use Rattle.std.proofs.Common.{arith, rules, sym, ◌∙◌}
use Rattle.std.specs.List.{flat_map}

-- Names: `n`: how many items were reached. `F`: what is known of the outside. `e`: that `F` extends the facts of this call. `reached n s`:
-- the machine s where n items were reached. `asked_further`: calls that only asked, one after another. `extends_before`: what extends the
-- facts after a call extends those before it.

-- one list of bytes is put with its break, and the others are left
pub loop-word-preserved : goal.loop-word-preserved
loop-word-preserved g c = record {
  asks = asked_further c.loop-word.invariant.asks c.put_broken.ensures.asks;
  left = λ n F e.
      next_put F c.args.context.now broken_word (reached n c.loop-word.self) (reached n c.put_broken.new.self) c.args.list.now
      c.loop-word.word-index c.word-item.result c.as_bytes.result.now (omega arith) c.word-item.is c.as_bytes.ensures
      (c.in_ok-put_broken.ensures.does n F e) ∙ c.loop-word.invariant.left n F (extends_before c.put_broken.ensures.asks e);
}

-- a list of bytes can't be put
pub returns-in_err-put_broken-clause-does : goal.returns-in_err-put_broken-clause-does
returns-in_err-put_broken-clause-does g c n F e =
    let failed = next_failed F c.args.context.now broken_word (reached n c.loop-word.self) (reached n c.put_broken.new.self) c.args.list.now
    c.loop-word.word-index c.word-item.result c.as_bytes.result.now (omega arith) c.word-item.is c.as_bytes.ensures
    c.in_err-put_broken.field-0.0 (c.in_err-put_broken.ensures.does n F e) in
    let whole = fails_as _ (run F c.args.context.now (reached n c.args.self.now) (puts (flat_map broken_word c.args.list.now))) failed
    (λ x. sym (c.loop-word.invariant.left n F (extends_before c.put_broken.ensures.asks e)) ∙ x) in
    let f = c.from_residual.ensures in
    search rules

-- what was asked, where a list of bytes can't be put
pub returns-in_err-put_broken-clause-asks : goal.returns-in_err-put_broken-clause-asks
returns-in_err-put_broken-clause-asks g c = asked_further c.loop-word.invariant.asks c.put_broken.ensures.asks

-- what was asked for all lists of bytes
pub returns-clause-asks : goal.returns-clause-asks
returns-clause-asks g c = c.loop-word.invariant.asks
