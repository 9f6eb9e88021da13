use Rattle.drv_machine.proofs.Arguments.{call_opened}
use Rattle.drv_machine.proofs.Onward.{too_deep}
use Rattle.drv_machine.proofs.calling.open_call.Goals as goal
use Rattle.drv_machine.specs.Atoms.{value_step}
use Rattle.drv_machine.specs.Cutting.{Cut}
use Rattle.drv_machine.specs.Code.Running.{Machine, reached}
use Rattle.drv_machine.specs.Code.Walking.{Left, after_arguments}
use Rattle.drv_machine.specs.declared.walk.Opened.TheVariants.{Call}
use Rattle.std.proofs.Common.{ap, refl, rules, subst, sym, ◌+◌, ◌∙◌}

-- Names: `n`: how many items were reached. `F`: what is known of the outside. `given`: what the walk gives in the end. `stands`, `b`: the
-- clause's conditions `Stands` and `Following`. `in_list`, `name_is`: the fields of `CallFits` (specs/Code/Walking). `reached n s`: the
-- machine s where n items were reached. `call_opened`: the walk enters the arguments, with nothing cut. `too_deep`: where the stack refuses
-- a frame, for 64 open parts or lack of memory, so is the text.

-- too many parts are open
pub returns-in_err-push-clause-does : goal.returns-in_err-push-clause-does
returns-in_err-push-clause-does c n F C name items given within named stands b =
    let failed = too_deep F C c.args.walk.now.text.now c.args.walk.now (reached n c.args.machine.now) given c.args.next _ b refl
    c.in_err-push.field-0.0 c.in_err-push.ensures.err in
    let f = c.from_residual-in_err-push.ensures in
    search rules

-- the arguments are open, and their end puts the function's value
pub returns-clause-does : goal.returns-clause-does
returns-clause-does c n F C name items given within named stands b =
    let outer = c.in_ok-outer.ensures.ok ∙ c.put_aside.ensures.aside in
    subst (λ (m : Machine). Left F C c.args.walk.now.text.now
    (record c.args.walk.now { at = c.args.at + 1; end = c.args.next; frames = c.push.new.self }) (reached n m) given)
    (sym c.put_aside.ensures.begun) (call_opened F C c.args.walk.now.text.now c.args.walk.now (reached n c.args.machine.now) c.args.next
    name items given b (Call c.args.at c.args.next c.in_ok-outer.outer) (record { in_list = within; name_is = named }) refl refl
    (λ levels star r. ap (λ (cut : Cut). after_arguments F C cut (value_step F C name) r) outer)
    c.in_ok-push.ensures.room (c.args.at + 1) stands (record c.args.walk.now
    { at = c.args.at + 1; end = c.args.next; frames = c.push.new.self }) refl refl refl c.in_ok-push.ensures.ok)
