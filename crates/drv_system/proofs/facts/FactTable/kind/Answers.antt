use Rattle.drv_system.proofs.Consulting.{consulted, consults_asks}
use Rattle.drv_system.proofs.InOrder.{answers_more, appended, in_order_unknown, ordered_here, ordered_with}
use Rattle.drv_system.proofs.facts.FactTable.kind.Goals as goal
use Rattle.std.proofs.Common.{◌∙◌, Some, ap, nat_eq}
use Rattle.std.specs.Cmp.Lexicographic.{pointwise}
use Rattle.std.specs.Map.{lookup}
use Rattle.std.specs.Prelude.{cond}

-- Names: `appended`: a key that wasn't there goes to the end. `consulted`: the question was answered. `consults_asks`: a look-up that asks,
-- or finds the answer, only asked. `in_order_unknown`: what the table knows, the map knows.

-- the new pair is put last, and its key was not there before
pub invariant_of-self-2 : goal.invariant_of-self-2
invariant_of-self-2 g c =
    let grows = appended c.self.inside.kinds.entries c.reserve.new.self.entries c.insert.new.self.entries c.in_ok-key.key c.args.path.now
    c.in_ok-kind.kind
    c.in_ok-key.ensures.cases c.in_default.ensures.value c.in_ok-reserve.ensures.entries c.in_ok-insert.ensures.entries in
    answers_more c.self.inside.kinds.entries c.insert.new.self.entries c.in_ok-key.key c.args.path.now c.in_ok-kind.kind c.self.invariant
    c.in_ok-key.ensures.cases c.in_default.ensures.value grows
    (λ other. c.in_ok-insert.ensures.updates.0 other
    ∙ ap (λ es. cond (pointwise nat_eq c.in_ok-key.key other) (Some c.in_ok-kind.kind) (lookup (pointwise nat_eq other) es))
    c.in_ok-reserve.ensures.entries)

-- the new pair is the answer to its key
pub returns-clause-known : goal.returns-clause-known
returns-clause-known g c =
    let grows = appended c.self.inside.kinds.entries c.reserve.new.self.entries c.insert.new.self.entries c.in_ok-key.key c.args.path.now
    c.in_ok-kind.kind
    c.in_ok-key.ensures.cases c.in_default.ensures.value c.in_ok-reserve.ensures.entries c.in_ok-insert.ensures.entries in
    ordered_here c.self.inside.kinds.entries c.insert.new.self.entries c.in_ok-key.key c.args.path.now c.in_ok-kind.kind c.self.invariant
    c.in_ok-key.ensures.cases c.in_default.ensures.value grows

-- the table had no answer, so the system was asked, and the table has its answer now
pub returns-clause-consults : goal.returns-clause-consults
returns-clause-consults g c =
    let grows = appended c.self.inside.kinds.entries c.reserve.new.self.entries c.insert.new.self.entries c.in_ok-key.key c.args.path.now
    c.in_ok-kind.kind
    c.in_ok-key.ensures.cases c.in_default.ensures.value c.in_ok-reserve.ensures.entries c.in_ok-insert.ensures.entries in
    let kinds = ordered_with c.self.inside.kinds.entries c.insert.new.self.entries c.in_ok-key.key c.args.path.now c.in_ok-kind.kind
    c.self.invariant
    c.in_ok-key.ensures.cases c.in_default.ensures.value grows in
    rw (← c.self.view_is) (consulted _ _ _ _ _ _ _
    (in_order_unknown c.self.inside.kinds.entries c.args.path.now c.self.invariant c.in_default.ensures.value) _ c.in_ok-kind.kind
    c.in_ok-kind.kind
    (returns-clause-known g c) c.in_ok-kind.ensures.event
    (ap (λ kinds. record { reads = c.self.inside.reads; kinds = kinds; variables = c.self.inside.variables }) kinds))

-- a table that was consulted asks at most what it lacks
pub returns-clause-asks : goal.returns-clause-asks
returns-clause-asks g c = consults_asks _ _ _ _ _ _ _ _ (λ kind new. new) (returns-clause-consults g c)
