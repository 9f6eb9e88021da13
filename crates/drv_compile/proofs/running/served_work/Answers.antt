use Rattle.drv_compile.proofs.Served.{served_plan, unserved_plan}
use Rattle.drv_compile.proofs.running.served_work.Goals as goal
use Rattle.drv_plan.specs.declared.fault.PlanFault.TheVariants.{NotInstalled}
use Rattle.drv_system.specs.Known.{Is}
use Rattle.std.proofs.Common.{◌∙◌, Err, ap, inr, refl, sym}
use Rattle.std.specs.Option.{option_map}

-- Names: `F`: what is known of the outside. `e`: that `F` extends the facts of this call. `known`: the clause's equation.

-- the line is refused by the name of the language
pub returns-in_ok-name-in-Some-clause-works : goal.returns-in_ok-name-in-Some-clause-works
returns-in_ok-name-in-Some-clause-works g c F e known =
    inr (unserved_plan F c.args.given.now.line.now c.args.given.now.set.now c.args.given.now.seed c.as_slice.result.now
    _ _ c.as_slice.ensures c.in_ok-foreign.ensures (ap (option_map (λ l. l.now)) c.in-Some.is)
    ∙ ap (λ n. Is (Err (NotInstalled n))) (sym c.in_ok-name-in-Some.ensures))

pub returns-in-None-clause-works : goal.returns-in-None-clause-works
returns-in-None-clause-works g c F e known =
    served_plan F c.args.given.now.line.now c.args.given.now.set.now c.args.given.now.seed c.as_slice.result.now
    _ c.work_along.result c.as_slice.ensures c.in_ok-foreign.ensures (ap (option_map (λ l. l.now)) c.in-None.is)
    (c.work_along.ensures.works F e known)

pub returns-in-None-clause-asks : goal.returns-in-None-clause-asks
returns-in-None-clause-asks g c = record { asks = c.work_along.ensures.asks; same_sys = refl; same_facts = refl }
