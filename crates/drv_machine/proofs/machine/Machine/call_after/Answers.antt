use Rattle.drv_machine.proofs.Arguments.{after_fails, after_is}
use Rattle.drv_machine.proofs.machine.Machine.call_after.Goals as goal
use Rattle.drv_machine.specs.Atoms.{call_step}
use Rattle.drv_machine.specs.Code.Running.{reached, run}
use Rattle.drv_machine.specs.Cutting.{Cut}
use Rattle.drv_machine.specs.declared.fault.MachineFault.TheVariants.{Memory}
use Rattle.drv_system.proofs.AskedCalls.{asked_further, extends_before}
use Rattle.drv_system.specs.Gives.{GivesKnown}
use Rattle.std.proofs.Common.{ap, rules, subst, ◌≡◌, ◌∙◌}

-- Names: `n`: how many items were reached. `F`: what is known of the outside. `e`: that `F` extends the facts of this call. `reached n s`:
-- the machine s where n items were reached. `call_step`: calls the function of this name with these words. `after_fails`: where the end of
-- the last word is refused, so is the call.

-- the word that is open can't end: its look-up has a fault
pub returns-in_err-end_word-clause-does : goal.returns-in_err-end_word-clause-does
returns-in_err-end_word-clause-does g c n F e =
    let failed = after_fails F c.args.context.now c.args.outer.value
    (call_step F c.args.context.now c.args.name.now) (reached n c.args.self.now) c.in_err-end_word.field-0.0
    (c.in_err-end_word.ensures.does n F e) in
    let handed = c.from_residual.ensures in search rules

-- the last word of the arguments ends, and the function is called
pub returns-clause-does : goal.returns-clause-does
returns-clause-does g c n F e =
    let C = c.args.context.now in
    subst (λ x. GivesKnown Memory (λ given. (given, (reached n c.call.new.self))) c.call.result x)
    (ap (λ args. run F C (reached n c.take_back-args.new.self) (call_step F C c.args.name.now args))
    (c.as_slice.ensures ∙ c.take_back-args.ensures.words)
    ∙ after_is F C c.args.outer.value (call_step F C c.args.name.now) (reached n c.args.self.now) (reached n c.end_word.new.self)
    (reached n c.take_back-args.new.self) (c.in_ok-end_word.ensures.does n F (extends_before c.call.ensures.asks e))
    (ap (reached n) c.take_back-args.ensures.back ∙ ap (λ (cut : Cut). record (reached n c.end_word.new.self) { cut = cut })
    (let same : c.into_inner.result ≡ c.args.outer.value = search rules in same))) (c.call.ensures.does n F e)

-- what was asked, where the word can't end
pub returns-in_err-end_word-clause-asks : goal.returns-in_err-end_word-clause-asks
returns-in_err-end_word-clause-asks g c = c.end_word.ensures.asks

-- what was asked for the word and by the function
pub returns-clause-asks : goal.returns-clause-asks
returns-clause-asks g c = asked_further c.end_word.ensures.asks c.call.ensures.asks
