use Rattle.drv_plan.proofs.Apart.{plan_apart}
use Rattle.drv_plan.proofs.Steps.{given_alike, plan_begun, prefixes_first}
use Rattle.drv_plan.proofs.planning.plan_along.Goals as goal
use Rattle.drv_plan.specs.Denoted.{denoted, finished, planned, then_by, with_inputs}
use Rattle.drv_system.proofs.Asking.{extends_refl}
use Rattle.drv_system.specs.Asking.{Extends}
use Rattle.std.proofs.Common.{refl, rules, ◌∙◌}

-- Names: `F`: what is known of the outside. `e`: that `F` extends the facts of this call. `known`: the clause's equation. `plan_apart`: the
-- plan in a context is not refused by the machine's lack of memory. `given_alike`: an answer to one definition is an answer to an equal
-- one. `prefixes_first`: a plan is made in the context with the prefixes of the line. `plan_begun`: a plan begins with no input done.

-- the prefixes are known, so the plan is that of the inputs in this context, from the progress before the first one
pub returns-clause-plans : goal.returns-clause-plans
returns-clause-plans g c F e known =
    let extends : Extends c.plan_inputs.new.outside.facts.now F = search rules in
    given_alike _ c.plan_inputs.result (then_by (with_inputs F c.args.given.now.set.now 0 c.as_slice-inputs.result.now
    c.in_ok-progress.progress) (λ g'. finished F c.args.given.now.set.now g'))
    (denoted F c.args.given.now.line.now c.args.given.now.set.now c.args.given.now.seed)
    (prefixes_first F c.args.given.now.line.now c.args.given.now.set.now c.args.given.now.seed _ c.as_slice-inputs.result.now
    c.args.prefixes.now c.in_ok-context.context refl c.as_slice-inputs.ensures known c.in_ok-context.ensures
    ∙ plan_begun F c.args.given.now.set.now c.as_slice-inputs.result.now c.in_ok-context.context c.in_ok-progress.progress
    c.in_ok-progress.ensures)
    (c.plan_inputs.ensures.works F extends)

-- no refusal of the plan is the machine's lack of memory
pub returns-clause-apart : goal.returns-clause-apart
returns-clause-apart g c =
    let F = c.plan_inputs.new.outside.facts.now in
    plan_apart F c.args.given.now.set.now c.as_slice-inputs.result.now c.in_ok-context.context
    c.plan_inputs.result (λ p. p)
    (given_alike _ c.plan_inputs.result (then_by (with_inputs F c.args.given.now.set.now 0 c.as_slice-inputs.result.now
    c.in_ok-progress.progress) (λ g'. finished F c.args.given.now.set.now g'))
    (planned F c.args.given.now.set.now c.as_slice-inputs.result.now c.in_ok-context.context)
    (plan_begun F c.args.given.now.set.now c.as_slice-inputs.result.now c.in_ok-context.context c.in_ok-progress.progress
    c.in_ok-progress.ensures)
    (c.plan_inputs.ensures.works F (extends_refl F)))
