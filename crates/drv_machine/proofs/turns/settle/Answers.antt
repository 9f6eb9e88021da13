use Rattle.drv_machine.proofs.Onward.{left_in, weight_one}
use Rattle.drv_machine.proofs.TurnSteps.{as_left, can_close, closed, given_of, item_in, none_popped, walk_ended}
use Rattle.drv_machine.proofs.turns.settle.Goals as goal
use Rattle.drv_machine.specs.Code.Running.{reached}
use Rattle.drv_machine.specs.Code.Walking.{Left, weight}
use Rattle.drv_machine.specs.declared.fault.MachineFault.TheVariants.{Memory}
use Rattle.drv_machine.specs.declared.walk.Frame.{Frame}
use Rattle.drv_machine.specs.declared.walk.Walk.{Walk}
use Rattle.drv_system.proofs.AskedCalls.{asked_further, asked_none, extends_before}
use Rattle.drv_system.proofs.Asking.{extends_refl}
use Rattle.drv_system.specs.Facts.{no_facts}
use Rattle.drv_system.specs.Known.{Is}
use Rattle.std.proofs.Common.{Err, Option, ap, arith, length, refl, rules, ◌++◌, ◌∙◌, ◌≡◌, ◌⊎◌}
use Rattle.std.specs.Prelude.{option_to_list}

-- Names: `n`: how many items were reached. `F`: what is known of the outside. `given`: what the walk gives in the end. `e`: that `F`
-- extends the facts of this call. `left`: the clause's condition `Left`. `arounds`, `framed`: the fields of `HasFrames`
-- (specs/Code/Walking). `rest`, `lies`: the fields of `Lain` (specs/Code/Walking). `reached n s`: the machine s where n items were reached.
-- `no_facts`: nothing is known yet. `left_in`: `Left` with another name for the same text. `as_left`: items and frames that lie in the text
-- are what is left of a walk that gives `given_of`. `closed`: what follows the end of the part, in the part around it.

-- items lie from the place of the walk on
pub skip-requires : goal.skip-requires
skip-requires g c = c.requires.lain

-- before the first round nothing is closed: only `skip` has passed over alternatives that have no effect, and the walk still has the same
-- left. Where items and parts lie depends on no answer of the system, so `start` says it for none (`no_facts`). `given_of` is what the
-- rest of a walk gives.
pub loop-walk-init : goal.loop-walk-init
loop-walk-init g c =
    let same = ap (λ (v : Walk). v.text.now) c.skip.ensures.same in
    let given = given_of no_facts c.args.context.now c.args.walk.now.text.now c.args.walk.now (reached 0 c.args.machine.now) c.requires.lain
    c.requires.framed in
    let start =
    left_in no_facts c.args.context.now c.args.walk.now.text.now c.skip.new.self.text.now c.skip.new.self (reached 0 c.args.machine.now)
    given same (c.skip.ensures.does no_facts c.args.context.now (reached 0 c.args.machine.now)
    given (as_left no_facts c.args.context.now c.args.walk.now.text.now c.args.walk.now (reached 0 c.args.machine.now)
    c.requires.lain c.requires.framed)) in
    record {
      asks = asked_none c.args.outside.now;
      lain = record { rest = start.rest; lies = start.lies };
      framed = record { arounds = start.arounds; framed = start.framed };
      at_item = λ h. item_in c.args.walk.now.text.now c.skip.new.self.text.now c.skip.new.self same (c.skip.ensures.reached h);
      left = λ n F e given left. left_in F c.args.context.now c.args.walk.now.text.now c.skip.new.self.text.now c.skip.new.self
          (reached n c.args.machine.now) given same (c.skip.ensures.does F c.args.context.now (reached n c.args.machine.now) given left);
    }

-- no part is open at the end of the text: the walk is done
pub returns-in_default-clause-does : goal.returns-in_default-clause-does
returns-in_default-clause-does g c n F e given left =
    walk_ended F c.args.context.now c.loop-walk.walk.text.now c.loop-walk.walk (reached n c.loop-walk.machine) given c.loop-walk-test.true
    (none_popped c.pop.result (length c.loop-walk.walk.frames) c.pop.ensures.variant c.in_default.is)
    (c.loop-walk.invariant.left n F e given left)

-- what the innermost part was opened for is in the text
pub close-requires : goal.close-requires
close-requires g c =
    can_close c.loop-walk.walk.text.now c.loop-walk.walk c.loop-walk-test.true c.in-Some.frame c.pop.new.self
    (c.pop.ensures.items ∙ ap (λ (o : Option Frame). c.pop.new.self ++ option_to_list o) c.in-Some.is)
    no_facts c.args.context.now (reached 0 c.loop-walk.machine) (given_of no_facts c.args.context.now c.loop-walk.walk.text.now
    c.loop-walk.walk (reached 0 c.loop-walk.machine) c.loop-walk.invariant.lain c.loop-walk.invariant.framed)
    (as_left no_facts c.args.context.now c.loop-walk.walk.text.now c.loop-walk.walk (reached 0 c.loop-walk.machine)
    c.loop-walk.invariant.lain c.loop-walk.invariant.framed)

-- the end of a part has a fault
pub returns-in_err-close-clause-does : goal.returns-in_err-close-clause-does
returns-in_err-close-clause-does g c n F e given left =
    let failed =
    closed c.loop-walk.walk.text.now c.loop-walk.walk c.loop-walk-test.true c.in-Some.frame c.pop.new.self
    (c.pop.ensures.items ∙ ap (λ (o : Option Frame). c.pop.new.self ++ option_to_list o) c.in-Some.is)
    F c.args.context.now (reached n c.loop-walk.machine) given (c.loop-walk.invariant.left n F (extends_before c.close.ensures.asks e) given
    left) (record c.loop-walk.walk { end = c.in-Some.frame.end; star = c.in-Some.frame.star; frames = c.pop.new.self }) refl refl refl
    ((c.in_err-close.field-0.0 ≡ Memory) ⊎ (given ≡ Is (Err c.in_err-close.field-0.0)))
    (λ p items kept fits following. c.in_err-close.ensures.does n F e p items kept given fits following) in
    let f = c.from_residual.ensures in
    search rules

-- items lie from the place after the closed part on
pub skip-requires-in-loop-walk : goal.skip-requires-in-loop-walk
skip-requires-in-loop-walk g c =
    let F = c.close.new.outside.facts.now in
    let given = given_of F c.args.context.now c.loop-walk.walk.text.now c.loop-walk.walk (reached 0 c.loop-walk.machine)
    c.loop-walk.invariant.lain c.loop-walk.invariant.framed in
    let left =
    closed c.loop-walk.walk.text.now c.loop-walk.walk c.loop-walk-test.true c.in-Some.frame c.pop.new.self
    (c.pop.ensures.items ∙ ap (λ (o : Option Frame). c.pop.new.self ++ option_to_list o) c.in-Some.is)
    F c.args.context.now (reached 0 c.loop-walk.machine) given (as_left F c.args.context.now c.loop-walk.walk.text.now c.loop-walk.walk
    (reached 0 c.loop-walk.machine) c.loop-walk.invariant.lain c.loop-walk.invariant.framed)
    (record c.loop-walk.walk { end = c.in-Some.frame.end; star = c.in-Some.frame.star; frames = c.pop.new.self }) refl refl refl
    (Left F c.args.context.now c.close.new.walk.text.now c.close.new.walk (reached 0 c.close.new.machine) given)
    (λ p items kept fits following. c.in_ok-close.ensures.does 0 F (extends_refl F) p items kept given fits following) in
    record { rest = left.rest; lies = left.lies }

-- each end makes what open parts may still open less
pub loop-walk-smaller : goal.loop-walk-smaller
loop-walk-smaller g c =
    let eq = ap (weight (length c.args.context.now.switches))
    (c.pop.ensures.items ∙ ap (λ (o : Option Frame). c.pop.new.self ++ option_to_list o) c.in-Some.is) in
    let same = ap (λ (v : Walk). weight (length c.args.context.now.switches) v.frames) c.skip-in-loop-walk.ensures.same in
    omega (arith, eq, weight_one (length c.args.context.now.switches) c.pop.new.self c.in-Some.frame, c.in_ok-close.ensures.lighter, same)

-- after a part is closed, what is left gives what the walk gave before
pub loop-walk-preserved : goal.loop-walk-preserved
loop-walk-preserved g c =
    let same = ap (λ (v : Walk). v.text.now) c.skip-in-loop-walk.ensures.same in
    let F = c.close.new.outside.facts.now in
    let given = given_of F c.args.context.now c.loop-walk.walk.text.now c.loop-walk.walk (reached 0 c.loop-walk.machine)
    c.loop-walk.invariant.lain c.loop-walk.invariant.framed in
    let after =
    left_in F c.args.context.now c.close.new.walk.text.now c.skip-in-loop-walk.new.self.text.now c.skip-in-loop-walk.new.self
    (reached 0 c.close.new.machine) given same (c.skip-in-loop-walk.ensures.does F c.args.context.now (reached 0 c.close.new.machine) given
    (closed c.loop-walk.walk.text.now c.loop-walk.walk c.loop-walk-test.true c.in-Some.frame c.pop.new.self
    (c.pop.ensures.items ∙ ap (λ (o : Option Frame). c.pop.new.self ++ option_to_list o) c.in-Some.is)
    F c.args.context.now (reached 0 c.loop-walk.machine) given (as_left F c.args.context.now c.loop-walk.walk.text.now c.loop-walk.walk
    (reached 0 c.loop-walk.machine) c.loop-walk.invariant.lain c.loop-walk.invariant.framed)
    (record c.loop-walk.walk { end = c.in-Some.frame.end; star = c.in-Some.frame.star; frames = c.pop.new.self }) refl refl refl
    (Left F c.args.context.now c.close.new.walk.text.now c.close.new.walk (reached 0 c.close.new.machine) given)
    (λ p items kept fits following. c.in_ok-close.ensures.does 0 F (extends_refl F) p items kept given fits following))) in record {
      asks = asked_further c.loop-walk.invariant.asks c.close.ensures.asks;
      lain = record { rest = after.rest; lies = after.lies };
      framed = record { arounds = after.arounds; framed = after.framed };
      at_item = λ h. item_in c.close.new.walk.text.now c.skip-in-loop-walk.new.self.text.now c.skip-in-loop-walk.new.self same
          (c.skip-in-loop-walk.ensures.reached h);
      left = λ n F e given left.
          left_in F c.args.context.now c.close.new.walk.text.now c.skip-in-loop-walk.new.self.text.now c.skip-in-loop-walk.new.self
          (reached n c.close.new.machine) given same
          (c.skip-in-loop-walk.ensures.does F c.args.context.now (reached n c.close.new.machine) given
          (closed c.loop-walk.walk.text.now c.loop-walk.walk c.loop-walk-test.true c.in-Some.frame c.pop.new.self
          (c.pop.ensures.items ∙ ap (λ (o : Option Frame). c.pop.new.self ++ option_to_list o) c.in-Some.is)
          F c.args.context.now (reached n c.loop-walk.machine) given (c.loop-walk.invariant.left n F (extends_before c.close.ensures.asks e)
          given left) (record c.loop-walk.walk { end = c.in-Some.frame.end; star = c.in-Some.frame.star; frames = c.pop.new.self }) refl
          refl refl (Left F c.args.context.now c.close.new.walk.text.now c.close.new.walk (reached n c.close.new.machine) given)
          (λ p items kept fits following. c.in_ok-close.ensures.does n F e p items kept given fits following)));
    }

-- the place of the walk is an item
pub returns-clause-reached : goal.returns-clause-reached
returns-clause-reached g c t = c.loop-walk.invariant.at_item (omega (arith, c.loop-walk-test.false))

-- an item is left, and what is left gives what the walk gave before
pub returns-clause-does : goal.returns-clause-does
returns-clause-does g c n F e given left = c.loop-walk.invariant.left n F e given left

-- what was asked, where the walk is done
pub returns-in_default-clause-asks : goal.returns-in_default-clause-asks
returns-in_default-clause-asks g c = c.loop-walk.invariant.asks

-- what was asked, where the end of a part has a fault
pub returns-in_err-close-clause-asks : goal.returns-in_err-close-clause-asks
returns-in_err-close-clause-asks g c = asked_further c.loop-walk.invariant.asks c.close.ensures.asks

-- what was asked, where an item is left
pub returns-clause-asks : goal.returns-clause-asks
returns-clause-asks g c = c.loop-walk.invariant.asks
