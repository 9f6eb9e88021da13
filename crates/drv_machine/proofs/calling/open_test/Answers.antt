use Rattle.drv_machine.proofs.Arguments.{ask_opened}
use Rattle.drv_machine.proofs.Onward.{too_deep, weight_one}
use Rattle.drv_machine.proofs.calling.open_test.Goals as goal
use Rattle.drv_machine.specs.Cutting.{Cut}
use Rattle.drv_machine.specs.Code.Running.{Machine, reached}
use Rattle.drv_machine.specs.Code.Walking.{AskFits, Left, asked_on, after_arguments, levels_in, star_of, weight}
use Rattle.drv_machine.specs.declared.walk.Asking.{Asking}
use Rattle.drv_machine.specs.declared.walk.Opened.TheVariants.{Asks}
use Rattle.std.proofs.Common.{ap, arith, refl, rules, subst, sym, ◌+◌, ◌-◌, ◌∙◌}

-- Names: `n`: how many items were reached. `F`: what is known of the outside. `kept`: what follows arguments: their function, and the test
-- that it answers. `given`: what the walk gives in the end. `fits`, `stands`, `b`: the clause's conditions `AskFits`, `Stands` and
-- `Following`. `reached n s`: the machine s where n items were reached. `ask_opened`: the walk enters the arguments of a test, with nothing
-- cut. `too_deep`: where the stack refuses a frame, for 64 open parts or lack of memory, so is the text. `weight_one`: the weight of the
-- stack grows by that of the frame that is pushed (what makes `settle` end).

-- too many parts are open
pub returns-in_err-push-clause-does : goal.returns-in_err-push-clause-does
returns-in_err-push-clause-does c n F C items arguments kept given fits stands b =
    let failed = too_deep F C c.args.walk.now.text.now c.args.walk.now (reached n c.args.machine.now) given c.args.asking.end _ b refl
    c.in_err-push.field-0.0 c.in_err-push.ensures.err in
    let f = c.from_residual-in_err-push.ensures in
    search rules

-- the arguments are open, and their end judges the test
pub returns-clause-does : goal.returns-clause-does
returns-clause-does c n F C items arguments kept given fits stands b =
    let outer = c.in_ok-outer.ensures.ok ∙ c.put_aside.ensures.aside in
    subst (λ (m : Machine). Left F C c.args.walk.now.text.now (record c.args.walk.now
    { at = c.args.asking.test + 1; end = c.args.asking.from; frames = c.push.new.self }) (reached n m) given)
    (sym c.put_aside.ensures.begun) (ask_opened F C c.args.walk.now.text.now c.args.walk.now (reached n c.args.machine.now)
    c.args.asking.end items arguments kept given b (Asks c.in_ok-places.places c.in_ok-outer.outer)
    (subst (λ (a : Asking). AskFits c.args.walk.now.text.now a items kept) (sym c.in_ok-places.ensures.ok) fits) refl
    (ap (λ (a : Asking). a.end) c.in_ok-places.ensures.ok) (λ r. ap (λ (cut : Cut). after_arguments F C cut
    (asked_on F C items kept (levels_in F C b.arounds) (star_of C c.args.walk.now.star)) r) outer)
    c.in_ok-push.ensures.room (c.args.asking.test + 1) c.args.asking.from stands
    (record c.args.walk.now { at = c.args.asking.test + 1; end = c.args.asking.from; frames = c.push.new.self }) refl refl refl
    c.in_ok-push.ensures.ok)

-- the end of the arguments may open what follows the test
pub returns-clause-lighter : goal.returns-clause-lighter
returns-clause-lighter c n =
    let e = ap (weight n) c.in_ok-push.ensures.ok in
    let tests = ap (λ (a : Asking). a.end - a.test) c.in_ok-places.ensures.ok in
    omega (
      arith,
      e,
      tests,
      -- the frame that is pushed
      weight_one n c.args.walk.now.frames
          (record { opened = Asks c.in_ok-places.places c.in_ok-outer.outer; end = c.args.walk.now.end; star = c.args.walk.now.star }),
    )
