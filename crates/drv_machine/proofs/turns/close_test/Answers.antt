use Rattle.drv_machine.proofs.Judging.{answer_refused, answered}
use Rattle.drv_machine.proofs.turns.close_test.Goals as goal
use Rattle.drv_machine.specs.Atoms.{has_value}
use Rattle.drv_machine.specs.Code.Running.{reached}
use Rattle.drv_machine.specs.Code.Walking.{after_arguments}
use Rattle.drv_machine.specs.declared.fault.MachineFault.TheVariants.{Memory}
use Rattle.drv_system.specs.Known.{Is}
use Rattle.std.proofs.Common.{◌≡◌, ◌⊎◌, ◌∙◌, Err, List, Ok, rules, subst, ℕ}

-- Names: `n`: how many items were reached. `F`: what is known of the outside. `kept`: what follows arguments: their function, and the test
-- that it answers. `given`: what the walk gives in the end. `e`: that `F` extends the facts of this call. `fits`, `a`: the clause's
-- conditions `AskFits` and `After`. `reached n s`: the machine s where n items were reached. `has_value`: whether the function of this name
-- gives a value for these words. `after_arguments`: the end of arguments, and what is done with their words after it.

-- the test is a token of the text
pub word-name-requires : goal.word-name-requires
word-name-requires g c = c.requires.2.in_list

-- the function has a fault, or its arguments do
pub returns-in_err-holds-clause-does : goal.returns-in_err-holds-clause-does
returns-in_err-holds-clause-does g c n F e items kept given fits a =
    let fault = c.in_err-holds.field-0.0 in
    let failed =
    answer_refused F c.args.context.now c.args.walk.now.text.now c.args.walk.now items kept given c.args.test.asking.end
    c.args.test.outer.value
    (reached n c.args.machine.now) a fault
    (subst (λ (name : List ℕ). (fault ≡ Memory) ⊎ (after_arguments F c.args.context.now c.args.test.outer.value
    (has_value F c.args.context.now name) (reached n c.args.machine.now) ≡ Is (Err fault))) (c.word-name.ensures ∙ fits.name_is)
    (c.in_err-holds.ensures.does n F e)) in
    let f = c.from_residual.ensures in
    search rules

-- the test is answered, and decides what follows
pub returns-clause-does : goal.returns-clause-does
returns-clause-does g c n F e items kept given fits a =
    c.answer.ensures.does n F items kept given fits
    (answered F c.args.context.now c.args.walk.now.text.now c.args.walk.now items kept given c.args.test.asking.end c.args.test.outer.value
    (reached n c.args.machine.now) a c.in_ok-holds.holds (reached n c.has_value.new.self)
    (subst (λ (name : List ℕ). after_arguments F c.args.context.now c.args.test.outer.value
    (has_value F c.args.context.now name) (reached n c.args.machine.now) ≡ Is (Ok (c.in_ok-holds.holds, (reached n c.has_value.new.self))))
    (c.word-name.ensures ∙ fits.name_is) (c.in_ok-holds.ensures.does n F e)))
