use Rattle.drv_machine.proofs.Onward.{leaf, same_step}
use Rattle.drv_machine.proofs.Steps.{gives_as}
use Rattle.drv_machine.proofs.failing.work_brace.Goals as goal
use Rattle.drv_machine.specs.Atoms.{brace_step, choices_step}
use Rattle.drv_machine.specs.Code.Running.{reached, run}
use Rattle.drv_machine.specs.Code.Standing.{Stands}
use Rattle.drv_machine.specs.Code.Walking.{levels_in, star_of}
use Rattle.drv_syntax.specs.Labels.{brace_nodes}
use Rattle.drv_syntax.specs.Tree.{Brace}
use Rattle.std.proofs.Common.{ap, subst, sym}

-- Names: `n`: how many items were reached. `F`: what is known of the outside. `given`: what the walk gives in the end. `e`: that `F`
-- extends the facts of this call. `s`, `b`: the clause's conditions `Stands` and `Following`. `ch`: of the type `Chooses`
-- (specs/Code/Walking). `reached n s`: the machine s where n items were reached. `brace_step`: what braces mean. `levels_in`: what may be
-- opened in the parts around.

-- the braces put the switches that their patterns hit
pub returns-then-has_patterns-clause-does : goal.returns-then-has_patterns-clause-does
returns-then-has_patterns-clause-does g c n F e brace given s b =
    let p = c.has_patterns.ensures.patterns c.if-has_patterns.true brace s in
    leaf F c.args.context.now c.args.walk.now.text.now c.args.walk.now (reached n c.args.machine.now) given c.args.parts.end
    (λ levels star. brace_step F c.args.context.now brace levels star) b c.emit.result (reached n c.emit.new.machine)
    (gives_as (reached n c.emit.new.machine) c.emit.result _ _ (ap (λ (x : Brace). run F c.args.context.now (reached n c.args.machine.now)
    (brace_step F c.args.context.now x (levels_in F c.args.context.now b.arounds) (star_of c.args.context.now c.args.walk.now.star)))
    (sym p.1)) (c.emit.ensures.does n F e p.0 (subst (λ (x : Brace). Stands c.args.walk.now.text.now c.args.parts.start (brace_nodes x)
    c.args.parts.end) p.1 s)))

-- the braces choose an alternative
pub returns-clause-does : goal.returns-clause-does
returns-clause-does g c n F e brace given s b =
    let ch = c.has_patterns.ensures.choices c.if-has_patterns.false brace s in
    c.choose.ensures.does n F ch.choices given ch.stands
    (same_step F c.args.context.now c.args.walk.now.text.now c.args.walk.now (reached n c.args.machine.now) given c.args.parts.end
    (λ levels star. brace_step F c.args.context.now brace levels star) b
    (λ levels star. choices_step F c.args.context.now ch.choices levels star) (reached n c.args.machine.now)
    (ch.same F c.args.context.now (reached n c.args.machine.now) (levels_in F c.args.context.now b.arounds)
    (star_of c.args.context.now c.args.walk.now.star)))
