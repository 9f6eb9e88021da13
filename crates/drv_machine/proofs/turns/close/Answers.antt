use Rattle.drv_machine.proofs.Onward.{after_leaf, as_after, after_in, leaf, once_lighter}
use Rattle.drv_machine.proofs.turns.close.Goals as goal
use Rattle.drv_machine.specs.Atoms.{value_step}
use Rattle.drv_machine.specs.Cutting.{Cut}
use Rattle.drv_machine.specs.Code.Running.{reached, run}
use Rattle.drv_machine.specs.Code.Walking.{After, AskFits, OpenedFits, asked_on, back_of, after_arguments, closing, file_end, hit_end}
use Rattle.drv_machine.specs.Code.Walking.{hits_left, text_around, weight}
use Rattle.drv_machine.specs.Working.{Break, To, nothing, puts}
use Rattle.drv_machine.specs.declared.fault.MachineFault.TheVariants.{Memory}
use Rattle.drv_machine.specs.declared.walk.Asking.{Asking}
use Rattle.drv_machine.specs.declared.walk.Opened.{Opened}
use Rattle.drv_system.specs.Gives.{GivesKnown}
use Rattle.std.proofs.Common.{◌≡◌, ◌∙◌, List, [], ◌∷◌, Ok, ap, arith, length, refl, rules, subst, sym, ℕ}

-- Names: `n`: how many items were reached. `F`: what is known of the outside. `kept`: what follows arguments: their function, and the test
-- that it answers. `given`: what the walk gives in the end. `e`: that `F` extends the facts of this call. `fits`, `a`: the clause's
-- conditions `OpenedFits` and `After`. `reached n s`: the machine s where n items were reached. `hits_left`: how often the end of an open
-- part may still open one. `back_of`: where the part around an open part goes on. `closing`: what the end of an open part gives.
-- `text_around`: the text of the part around an open part, which lies in this text.

-- the test of the X is a token of the text
pub close_hit-requires-clause-in_list : goal.close_hit-requires-clause-in_list
close_hit-requires-clause-in_list g c =
    (subst (λ (o : Opened). OpenedFits c.args.walk.now.text.now c.args.context.now o c.requires.0 c.requires.1 c.requires.2)
    c.in-Hit.is c.requires.3).in_list

-- the switch that was hit is on the line
pub close_hit-requires-clause-in_line : goal.close_hit-requires-clause-in_line
close_hit-requires-clause-in_line g c =
    (subst (λ (o : Opened). OpenedFits c.args.walk.now.text.now c.args.context.now o c.requires.0 c.requires.1 c.requires.2)
    c.in-Hit.is c.requires.3).in_line

-- the end of an X for a hit: its argument, and the next hit
pub returns-in-Hit-clause-does : goal.returns-in-Hit-clause-does
returns-in-Hit-clause-does g c n F e p items kept given fits a =
    c.close_hit.ensures.does n F e p items given (subst
    (λ (o : Opened). OpenedFits c.args.walk.now.text.now c.args.context.now o p items kept) c.in-Hit.is fits)
    (as_after F c.args.context.now c.args.walk.now.text.now
    (record c.args.walk.now { end = c.args.frame.end; star = c.args.frame.star }) c.in-Hit.each.end
    (λ levels star. hit_end F c.args.context.now p items levels c.in-Hit.switch) (reached n c.args.machine.now) given
    (subst (λ (o : Opened). After F c.args.context.now (text_around c.args.walk.now.text.now o)
    (record c.args.walk.now { end = c.args.frame.end; star = c.args.frame.star }) (back_of o)
    (λ levels star s. closing F c.args.context.now levels star o p items kept s) (reached n c.args.machine.now) given) c.in-Hit.is a))

-- the end of a named text: the walk goes back to the text around it
pub returns-in-Text-clause-does : goal.returns-in-Text-clause-does
returns-in-Text-clause-does g c n F e p items kept given fits a =
    leaf F c.args.context.now c.in-Text.around.now (record c.args.walk.now
    { text = c.in-Text.around; end = c.args.frame.end; star = c.args.frame.star }) (reached n c.args.machine.now) given c.in-Text.back
    (λ levels star. nothing)
    (after_in F c.args.context.now c.in-Text.around.now (record c.args.walk.now { end = c.args.frame.end; star = c.args.frame.star })
    (record c.args.walk.now { text = c.in-Text.around; end = c.args.frame.end; star = c.args.frame.star })
    c.in-Text.back (λ levels star. nothing) (reached n c.args.machine.now) given refl refl refl
    (as_after F c.args.context.now c.in-Text.around.now
    (record c.args.walk.now { end = c.args.frame.end; star = c.args.frame.star }) c.in-Text.back
    (λ levels star. nothing) (reached n c.args.machine.now) given
    (subst (λ (o : Opened). After F c.args.context.now (text_around c.args.walk.now.text.now o)
    (record c.args.walk.now { end = c.args.frame.end; star = c.args.frame.star }) (back_of o)
    (λ levels star s. closing F c.args.context.now levels star o p items kept s) (reached n c.args.machine.now) given) c.in-Text.is a)))
    (Ok tt) (reached n c.args.machine.now) refl

-- the end of a %W
pub returns-in-Failure-clause-does : goal.returns-in-Failure-clause-does
returns-in-Failure-clause-does g c n F e p items kept given fits a =
    leaf F c.args.context.now c.args.walk.now.text.now
    (record c.args.walk.now { end = c.args.frame.end; star = c.args.frame.star }) (reached n c.args.machine.now) given c.in-Failure.back
    (λ levels star. puts (Break ∷ To ∷ [])) (as_after F c.args.context.now c.args.walk.now.text.now
    (record c.args.walk.now { end = c.args.frame.end; star = c.args.frame.star }) c.in-Failure.back
    (λ levels star. puts (Break ∷ To ∷ [])) (reached n c.args.machine.now) given
    (subst (λ (o : Opened). After F c.args.context.now (text_around c.args.walk.now.text.now o)
    (record c.args.walk.now { end = c.args.frame.end; star = c.args.frame.star }) (back_of o)
    (λ levels star s. closing F c.args.context.now levels star o p items kept s) (reached n c.args.machine.now) given) c.in-Failure.is a))
    c.end_failure.result (reached n c.end_failure.new.self) (c.end_failure.ensures.does n F e)

-- the end of a %@ that makes a file
pub returns-in-File-clause-does : goal.returns-in-File-clause-does
returns-in-File-clause-does g c n F e p items kept given fits a =
    after_leaf F c.args.context.now c.args.walk.now.text.now
    (record c.args.walk.now { end = c.args.frame.end; star = c.args.frame.star }) (reached n c.args.machine.now) given c.in-File.back
    (λ levels star s. file_end F c.args.context.now s)
    (subst (λ (o : Opened). After F c.args.context.now (text_around c.args.walk.now.text.now o)
    (record c.args.walk.now { end = c.args.frame.end; star = c.args.frame.star }) (back_of o)
    (λ levels star s. closing F c.args.context.now levels star o p items kept s) (reached n c.args.machine.now) given) c.in-File.is a)
    c.end_file.result (reached n c.end_file.new.self) (c.end_file.ensures.does n F e)

-- the end of a %@ that makes none
pub returns-in-Inside-clause-does : goal.returns-in-Inside-clause-does
returns-in-Inside-clause-does g c n F e p items kept given fits a =
    after_leaf F c.args.context.now c.args.walk.now.text.now
    (record c.args.walk.now { end = c.args.frame.end; star = c.args.frame.star }) (reached n c.args.machine.now) given c.in-Inside.back
    (λ levels star s. run F c.args.context.now s nothing)
    (subst (λ (o : Opened). After F c.args.context.now (text_around c.args.walk.now.text.now o)
    (record c.args.walk.now { end = c.args.frame.end; star = c.args.frame.star }) (back_of o)
    (λ levels star s. closing F c.args.context.now levels star o p items kept s) (reached n c.args.machine.now) given) c.in-Inside.is a)
    (Ok tt) (reached n c.args.machine.now) refl

-- the function item is a token of the text
pub word-requires : goal.word-requires
word-requires g c =
    (subst (λ (o : Opened). OpenedFits c.args.walk.now.text.now c.args.context.now o c.requires.0 c.requires.1 c.requires.2)
    c.in-Call.is c.requires.3).in_list

-- the end of an item's arguments: the function's value is put
pub returns-in-Call-clause-does : goal.returns-in-Call-clause-does
returns-in-Call-clause-does g c n F e p items kept given fits a =
    let call = subst (λ (o : Opened). OpenedFits c.args.walk.now.text.now c.args.context.now o p items kept) c.in-Call.is fits in
    after_leaf F c.args.context.now c.args.walk.now.text.now
    (record c.args.walk.now { end = c.args.frame.end; star = c.args.frame.star }) (reached n c.args.machine.now) given c.in-Call.back
    (λ levels star s. after_arguments F c.args.context.now c.in-Call.outer.value (value_step F c.args.context.now kept.name) s)
    (subst (λ (o : Opened). After F c.args.context.now (text_around c.args.walk.now.text.now o)
    (record c.args.walk.now { end = c.args.frame.end; star = c.args.frame.star }) (back_of o)
    (λ levels star s. closing F c.args.context.now levels star o p items kept s) (reached n c.args.machine.now) given) c.in-Call.is a)
    c.put_value.result (reached n c.put_value.new.self)
    (subst (λ (name : List ℕ). GivesKnown Memory (λ u. (tt, (reached n c.put_value.new.self))) c.put_value.result
    (after_arguments F c.args.context.now c.in-Call.outer.value (value_step F c.args.context.now name) (reached n c.args.machine.now)))
    (c.word.ensures ∙ call.name_is)
    (subst (λ (cut : Cut). GivesKnown Memory (λ u. (tt, (reached n c.put_value.new.self))) c.put_value.result
    (after_arguments F c.args.context.now cut (value_step F c.args.context.now c.word.result.now) (reached n c.args.machine.now)))
    (search rules) (c.put_value.ensures.does n F e)))

-- the next hit has fewer switches after it
pub returns-in-Hit-clause-lighter : goal.returns-in-Hit-clause-lighter
returns-in-Hit-clause-lighter g c =
    let e = ap (hits_left (length c.args.context.now.switches)) c.in-Hit.is in
    let l = c.close_hit.ensures.lighter in
    grind (arith)

-- the end of a named text opens nothing
pub returns-in-Text-clause-lighter : goal.returns-in-Text-clause-lighter
returns-in-Text-clause-lighter g c = let e = ap (hits_left (length c.args.context.now.switches)) c.in-Text.is in omega (arith, e)

-- the end of a %W opens nothing
pub returns-in-Failure-clause-lighter : goal.returns-in-Failure-clause-lighter
returns-in-Failure-clause-lighter g c =
    let e = ap (hits_left (length c.args.context.now.switches)) c.in-Failure.is in
    once_lighter c.end_failure.result (weight (length c.args.context.now.switches) c.args.walk.now.frames)
    (hits_left (length c.args.context.now.switches) c.args.frame.opened) (omega (arith, e))

-- the end of a %@ that makes a file opens nothing
pub returns-in-File-clause-lighter : goal.returns-in-File-clause-lighter
returns-in-File-clause-lighter g c =
    let e = ap (hits_left (length c.args.context.now.switches)) c.in-File.is in
    once_lighter c.end_file.result (weight (length c.args.context.now.switches) c.args.walk.now.frames)
    (hits_left (length c.args.context.now.switches) c.args.frame.opened) (omega (arith, e))

-- the end of a %@ that makes none opens nothing
pub returns-in-Inside-clause-lighter : goal.returns-in-Inside-clause-lighter
returns-in-Inside-clause-lighter g c = let e = ap (hits_left (length c.args.context.now.switches)) c.in-Inside.is in omega (arith, e)

-- the end of an item's arguments opens nothing
pub returns-in-Call-clause-lighter : goal.returns-in-Call-clause-lighter
returns-in-Call-clause-lighter g c =
    let e = ap (hits_left (length c.args.context.now.switches)) c.in-Call.is in
    once_lighter c.put_value.result (weight (length c.args.context.now.switches) c.args.walk.now.frames)
    (hits_left (length c.args.context.now.switches) c.args.frame.opened) (omega (arith, e))

-- the test and what follows it are in the text
pub close_test-requires : goal.close_test-requires
close_test-requires g c =
    let is : c.into_inner.result ≡ c.in-Asks.places.value = search rules in (
      c.requires.1,
      c.requires.2,
      subst (λ (a : Asking). AskFits c.args.walk.now.text.now a c.requires.1 c.requires.2) (sym is)
          (subst (λ (o : Opened). OpenedFits c.args.walk.now.text.now c.args.context.now o c.requires.0 c.requires.1
          c.requires.2) c.in-Asks.is c.requires.3),
    )

-- the end of a test's arguments: the test is judged
pub returns-in-Asks-clause-does : goal.returns-in-Asks-clause-does
returns-in-Asks-clause-does g c n F e p items kept given fits a =
    let is : c.into_inner.result ≡ c.in-Asks.places.value = search rules in
    c.close_test.ensures.does n F e items kept given (subst (λ (a : Asking). AskFits c.args.walk.now.text.now a items kept) (sym is)
    (subst (λ (o : Opened). OpenedFits c.args.walk.now.text.now c.args.context.now o p items kept) c.in-Asks.is fits))
    (subst (λ (cut : Cut). After F c.args.context.now c.args.walk.now.text.now
    (record c.args.walk.now { end = c.args.frame.end; star = c.args.frame.star }) c.into_inner.result.end
    (λ levels star s. after_arguments F c.args.context.now cut (asked_on F c.args.context.now items kept levels star) s)
    (reached n c.args.machine.now) given) (search rules) (subst (λ (back : ℕ). After F c.args.context.now c.args.walk.now.text.now
    (record c.args.walk.now { end = c.args.frame.end; star = c.args.frame.star }) back
    (λ levels star s. after_arguments F c.args.context.now c.in-Asks.outer.value
    (asked_on F c.args.context.now items kept levels star) s) (reached n c.args.machine.now) given)
    (sym (ap (λ (places : Asking). places.end) is)) (subst (λ (o : Opened). After F c.args.context.now
    (text_around c.args.walk.now.text.now o) (record c.args.walk.now { end = c.args.frame.end; star = c.args.frame.star }) (back_of o)
    (λ levels star s. closing F c.args.context.now levels star o p items kept s) (reached n c.args.machine.now) given) c.in-Asks.is a)))
