use Rattle.drv_machine.proofs.ChoiceTurns.{each_entered, once_entered}
use Rattle.drv_machine.proofs.braces.enter_alternative.Goals as goal
use Rattle.drv_machine.specs.Code.Running.{reached}
use Rattle.drv_machine.specs.Code.Walking.{Went}

-- Names: `n`: how many items were reached. `F`: what is known of the outside. `negated`: whether the test has a `!`. `others`: what the
-- other alternatives do. `given`: what the walk gives in the end. `stands`, `b`: the clause's conditions `Stands` and `Following`. `owns`,
-- `label`: the clause's equations. `reached n s`: the machine s where n items were reached. `each_entered`: an X that is processed for each
-- hit.

-- the X is opened for the first hit
pub returns-then-is_for_each-clause-does : goal.returns-then-is_for_each-clause-does
returns-then-is_for_each-clause-does c n F negated asked items others given owns label stands b =
    each_entered F c.args.context.now c.args.walk.now.text.now c.args.walk.now (reached n c.args.machine.now) c.args.each.test
    c.args.each.start c.args.each.end negated asked items others given label stands b c.args.own owns c.is_for_each.result
    c.is_for_each.ensures c.if-is_for_each.true (Went F c.args.context.now c.enter_next.new.walk.text.now c.enter_next.new.walk
    (reached n c.args.machine.now) given c.enter_next.result) (λ p is following. c.enter_next.ensures.does n F p items given is stands
    following)

-- the X is reached, once
pub returns-clause-does : goal.returns-clause-does
returns-clause-does c n F negated asked items others given owns label stands b =
    once_entered F c.args.context.now c.args.walk.now.text.now c.args.walk.now (reached n c.args.machine.now) c.args.each.test
    c.args.each.start c.args.each.end negated asked items others given label stands b c.args.own owns c.is_for_each.result
    c.is_for_each.ensures c.if-is_for_each.false
