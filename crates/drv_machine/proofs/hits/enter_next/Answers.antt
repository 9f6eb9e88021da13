use Rattle.drv_machine.proofs.Onward.{leaf, same_step}
use Rattle.drv_machine.proofs.hits.enter_next.Goals as goal
use Rattle.drv_machine.specs.Code.Running.{reached}
use Rattle.drv_machine.specs.Code.Walking.{each_from, from_hit, levels_in, NextHit}
use Rattle.drv_match.specs.Pattern.{Pattern}
use Rattle.std.specs.Option.{IfSome}
use Rattle.std.proofs.Common.{Ok, Option, ap, length, subst, ◌<◌, ◌∙◌, ◌≤◌, ℕ}

-- Names: `n`: how many items were reached. `F`: what is known of the outside. `given`: what the walk gives in the end. `stands`, `b`: the
-- clause's conditions `Stands` and `Following`. `label`: the clause's equation. `in_list`, `label_is`, `stands`, `in_line`: the fields of
-- `HitFits` (specs/Code/Walking). `reached n s`: the machine s where n items were reached. `levels_in`: what may be opened in the parts
-- around. `each_from`: X for the switches from a place on.

-- another switch is hit: the X is opened for it
pub returns-in-Some-clause-does : goal.returns-in-Some-clause-does
returns-in-Some-clause-does c n F p items given label stands b =
    let is = c.pattern_at-pattern.ensures ∙ label in
    let within = subst (λ (found : Option ℕ). IfSome found (λ i. (c.args.from ≤ i) × (i < length c.args.context.now.switches))) c.in-Some.is
    c.next_hit.ensures.within in
    c.open_hit.ensures.does F c.args.context.now p items (reached n c.args.machine.now) given
    (record { in_list = c.requires; label_is = label; stands = stands; in_line = within.1 })
    (ap (λ (x : Pattern). length x.name) (c.pattern.view_is ∙ is))
    (same_step F c.args.context.now c.args.walk.now.text.now c.args.walk.now (reached n c.args.machine.now) given c.args.each.end
    (λ levels star. each_from F c.args.context.now p items levels c.args.from) b
    (λ levels star. from_hit F c.args.context.now p items levels c.in-Some.switch) (reached n c.args.machine.now)
    (subst (λ (found : Option ℕ). NextHit F c.args.context.now (reached n c.args.machine.now) p items
    (levels_in F c.args.context.now b.arounds) c.args.from found) c.in-Some.is
    (c.next_hit.ensures.finds n F p items (levels_in F c.args.context.now b.arounds) is)))

-- no other switch is hit: the walk goes on after the X
pub returns-in-None-clause-does : goal.returns-in-None-clause-does
returns-in-None-clause-does c n F p items given label stands b =
    let is = c.pattern_at-pattern.ensures ∙ label in
    leaf F c.args.context.now c.args.walk.now.text.now c.args.walk.now (reached n c.args.machine.now) given c.args.each.end
    (λ levels star. each_from F c.args.context.now p items levels c.args.from) b (Ok tt) (reached n c.args.machine.now)
    (subst (λ (found : Option ℕ). NextHit F c.args.context.now (reached n c.args.machine.now) p items
    (levels_in F c.args.context.now b.arounds) c.args.from found) c.in-None.is
    (c.next_hit.ensures.finds n F p items (levels_in F c.args.context.now b.arounds) is))
