use Rattle.drv_machine.proofs.Onward.{leaf, same_step}
use Rattle.drv_machine.proofs.Steps.{then_fails, then_ok}
use Rattle.drv_machine.proofs.hits.close_hit.Goals as goal
use Rattle.drv_machine.specs.Code.Running.{reached}
use Rattle.drv_machine.specs.Context.{argument}
use Rattle.drv_machine.specs.Code.Walking.{each_from, hit_end, levels_in}
use Rattle.drv_machine.specs.Working.{Break, puts, word_of}
use Rattle.std.proofs.Common.{Err, rules, ◌+◌, ◌∷◌}

-- Names: `n`: how many items were reached. `F`: what is known of the outside. `given`: what the walk gives in the end. `e`: that `F`
-- extends the facts of this call. `fits`, `b`: the clause's conditions `HitFits` and `Following`. `reached n s`: the machine s where n
-- items were reached. `each_from`: X for the switches from a place on. `argument`: the argument of the switch at a place, if it has one.

-- the switch's argument can't be put
pub returns-in_err-put_argument-clause-does : goal.returns-in_err-put_argument-clause-does
returns-in_err-put_argument-clause-does g c n F e p items given fits b =
    let failed =
    leaf F c.args.context.now c.args.walk.now.text.now c.args.walk.now (reached n c.args.machine.now) given c.args.hit.each.end
    (λ levels star. hit_end F c.args.context.now p items levels c.args.hit.switch) b
    (Err c.in_err-put_argument.field-0.0) (reached n c.put_argument.new.self)
    (then_fails F c.args.context.now (reached n c.args.machine.now) (puts (Break ∷ word_of (argument c.args.context.now c.args.hit.switch)))
    (λ u. each_from F c.args.context.now p items (levels_in F c.args.context.now b.arounds) (c.args.hit.switch + 1))
    c.in_err-put_argument.field-0.0 (c.in_err-put_argument.ensures.does n F e)) in
    let f = c.from_residual.ensures in
    search rules

-- the switch's argument is put, and the next hit is opened
pub returns-clause-does : goal.returns-clause-does
returns-clause-does g c n F e p items given fits b =
    c.enter_next.ensures.does n F p items given fits.label_is fits.stands
    (same_step F c.args.context.now c.args.walk.now.text.now c.args.walk.now (reached n c.args.machine.now) given c.args.hit.each.end
    (λ levels star. hit_end F c.args.context.now p items levels c.args.hit.switch) b
    (λ levels star. each_from F c.args.context.now p items levels (c.args.hit.switch + 1)) (reached n c.put_argument.new.self)
    (then_ok F c.args.context.now (reached n c.args.machine.now) (puts (Break ∷ word_of (argument c.args.context.now c.args.hit.switch)))
    (λ u. each_from F c.args.context.now p items (levels_in F c.args.context.now b.arounds) (c.args.hit.switch + 1)) tt
    (reached n c.put_argument.new.self) (c.in_ok-put_argument.ensures.does n F e)))
