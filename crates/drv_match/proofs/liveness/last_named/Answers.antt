use Rattle.drv_match.proofs.Lasts.{chosen, is_upto, named_last, named_none, passed, upto_parts}
use Rattle.drv_match.proofs.liveness.last_named.Goals as goal
use Rattle.std.proofs.Common.{◌∙◌, ◌-◌, ◌<◌, ap, arith, get_or, nat_eq, refl, rules, sym}
use Rattle.std.proofs.lemmas.List.Sorted.{IsPartitionPoint-from_clause}
use Rattle.std.specs.Cmp.Lexicographic.{pointwise}

-- Names: `is_upto`: whether the name at a place is this one or comes before it. `upto_parts`: in the order of names the places up to a name
-- come first. `named_last`: the entry before the end is the last place of the name, or no switch has the name.

-- every name comes after this one, so no switch has it
pub returns-then-end-eq0 : goal.returns-then-end-eq0
returns-then-end-eq0 c = named_none c.args.names.now c.args.order.now c.args.name.now c.partition_point-end.result c.requires
    (IsPartitionPoint-from_clause (is_upto c.args.names.now c.args.name.now) c.args.order.now _ c.partition_point-end.ensures.partitioned
    (upto_parts c.args.names.now c.args.order.now c.args.name.now c.requires) (λ a r q k. search rules)) c.if-end-eq0.true

-- the name before the end of the block is this one, so it is the last of it
pub returns-then-eq : goal.returns-then-eq
returns-then-eq c =
    let some : 0 < c.partition_point-end.result = omega arith in
    let is = named_last c.args.names.now c.args.order.now c.args.name.now c.partition_point-end.result
    (get_or c.args.order.now (c.partition_point-end.result - 1) 0) c.requires c.partition_point-end.ensures.bound
    (IsPartitionPoint-from_clause (is_upto c.args.names.now c.args.name.now) c.args.order.now _
    c.partition_point-end.ensures.partitioned (upto_parts c.args.names.now c.args.order.now c.args.name.now c.requires)
    (λ a r q k. search rules)) some refl in
    chosen (pointwise nat_eq c.args.name.now) c.args.names.now (get_or c.args.order.now (c.partition_point-end.result - 1) 0) _
    (sym (c.eq.ensures ∙ ap (λ t. pointwise nat_eq t c.args.name.now) c.get.ensures) ∙ c.if-eq.true) is

-- it is another one, so the line doesn't have this name
pub returns-else-eq : goal.returns-else-eq
returns-else-eq c =
    let some : 0 < c.partition_point-end.result = omega arith in
    let is = named_last c.args.names.now c.args.order.now c.args.name.now c.partition_point-end.result
    (get_or c.args.order.now (c.partition_point-end.result - 1) 0) c.requires c.partition_point-end.ensures.bound
    (IsPartitionPoint-from_clause (is_upto c.args.names.now c.args.name.now) c.args.order.now _
    c.partition_point-end.ensures.partitioned (upto_parts c.args.names.now c.args.order.now c.args.name.now c.requires)
    (λ a r q k. search rules)) some refl in
    passed (pointwise nat_eq c.args.name.now) c.args.names.now (get_or c.args.order.now (c.partition_point-end.result - 1) 0) _
    (sym (c.eq.ensures ∙ ap (λ t. pointwise nat_eq t c.args.name.now) c.get.ensures) ∙ c.if-eq.false) is
