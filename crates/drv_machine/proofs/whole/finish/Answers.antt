use Rattle.drv_machine.proofs.Steps.{fails_as, then_fails, then_ok}
use Rattle.drv_machine.proofs.whole.finish.Goals as goal
use Rattle.drv_machine.specs.Atoms.{items_step, levels_left, whole_text}
use Rattle.drv_machine.specs.Code.Counting.{state}
use Rattle.drv_machine.specs.Code.Running.{Machine, run}
use Rattle.drv_machine.specs.Outcome.{finished}
use Rattle.drv_machine.specs.Working.{◌>>-◌, Answer, Break, End, most_open, puts}
use Rattle.drv_machine.specs.declared.fault.MachineFault.TheVariants.{Memory}
use Rattle.drv_syntax.specs.Parsed.{tree_of}
use Rattle.drv_system.proofs.AskedCalls.{asked_further, extends_before}
use Rattle.drv_system.specs.Gives.{GivesKnown}
use Rattle.std.proofs.Common.{[], ap, rules, subst, sym, ◌∷◌, ◌∙◌}

-- Names: `F`: what is known of the outside. `e`: that `F` extends the facts of this call. `finished`: the outcome after the whole text.
-- `fails_as`: a refusal of one answer is that of another that it stops. `whole_text`: a whole text, whose end ends its last command.

-- the items have a refusal
pub returns-in_err-work_text-clause-does : goal.returns-in_err-work_text-clause-does
returns-in_err-work_text-clause-does g c F e =
    let cut = run F c.args.context.now (state c.args.tally.now) (whole_text F c.args.context.now (tree_of c.args.text.now)) in
    let failed =
    fails_as cut (cut >>- λ r. finished F c.args.context.now r.1.world r.1.cut)
    (then_fails F c.args.context.now (state c.args.tally.now)
    (items_step F c.args.context.now (tree_of c.args.text.now) (levels_left F c.args.context.now most_open) [])
    (λ u. puts (Break ∷ End ∷ [])) c.in_err-work_text.field-0.0 (c.in_err-work_text.ensures.does F e))
    (λ x. ap (λ (a : Answer (Unit {0} × Machine)). a >>- λ r. finished F c.args.context.now r.1.world r.1.cut) x) in
    let f = c.from_residual.ensures in
    search rules

-- the last word has a refusal: the whole text gives what is left after the items
pub returns-in_err-end_line-clause-does : goal.returns-in_err-end_line-clause-does
returns-in_err-end_line-clause-does g c F e =
    let went =
    then_ok F c.args.context.now (state c.args.tally.now) (items_step F c.args.context.now (tree_of c.args.text.now)
    (levels_left F c.args.context.now most_open) []) (λ u. puts (Break ∷ End ∷ [])) tt
    (state c.work_text.new.tally) (c.in_ok-work_text.ensures.does F (extends_before c.end_line.ensures.asks e)) in
    let cut = run F c.args.context.now (state c.args.tally.now) (whole_text F c.args.context.now (tree_of c.args.text.now)) in
    let failed =
    fails_as (run F c.args.context.now (state c.work_text.new.tally) (puts (Break ∷ End ∷ [])))
    (cut >>- λ r. finished F c.args.context.now r.1.world r.1.cut)
    (c.in_err-end_line.ensures.does c.work_text.new.tally.items F e)
    (λ x. ap (λ (a : Answer (Unit {0} × Machine)). a >>- λ r. finished F c.args.context.now r.1.world r.1.cut) (went ∙ x)) in
    let f = c.from_residual-in_err-end_line.ensures in
    search rules

-- the text is run, and its job is made of the cut
pub returns-clause-does : goal.returns-clause-does
returns-clause-does g c F e =
    let before = extends_before c.outcome_of.ensures.asks e in
    let went =
    then_ok F c.args.context.now (state c.args.tally.now) (items_step F c.args.context.now (tree_of c.args.text.now)
    (levels_left F c.args.context.now most_open) []) (λ u. puts (Break ∷ End ∷ [])) tt
    (state c.work_text.new.tally) (c.in_ok-work_text.ensures.does F (extends_before c.end_line.ensures.asks before)) in
    subst (λ given. GivesKnown Memory (λ o. o) c.outcome_of.result given)
    (sym (ap (λ (a : Answer (Unit {0} × Machine)). a >>- λ r. finished F c.args.context.now r.1.world r.1.cut)
    (went ∙ c.in_ok-end_line.ensures.does c.work_text.new.tally.items F before))) (c.outcome_of.ensures.does F e)

-- what was asked, where the items have a refusal
pub returns-in_err-work_text-clause-asks : goal.returns-in_err-work_text-clause-asks
returns-in_err-work_text-clause-asks g c = c.work_text.ensures.asks

-- what was asked for the items and for the last word
pub returns-in_err-end_line-clause-asks : goal.returns-in_err-end_line-clause-asks
returns-in_err-end_line-clause-asks g c = asked_further c.work_text.ensures.asks c.end_line.ensures.asks

-- what was asked for the text and for its programs
pub returns-clause-asks : goal.returns-clause-asks
returns-clause-asks g c = asked_further (asked_further c.work_text.ensures.asks c.end_line.ensures.asks) c.outcome_of.ensures.asks
