use Rattle.drv_match.proofs.Blocks.{asks_end, asks_start, block_found, end_parts, none_found, start_parts}
use Rattle.drv_match.proofs.sorting.block_of.Goals as goal
use Rattle.std.proofs.Common.{rules}
use Rattle.std.proofs.lemmas.List.Sorted.{IsPartitionPoint-from_clause}

-- Names: `asks_start`: what the first search asks of a place. `start_parts`: in the order of names the places that come before the
-- pattern's name are first. `asks_end`: what the second asks.

-- both searches find where the block begins and ends
pub returns : goal.returns
returns c =
    block_found c.args.names.now c.args.order.now c.args.pattern.now _ _ c.partition_point-start.ensures.bound
    c.partition_point-end.ensures.bound
    (IsPartitionPoint-from_clause (asks_start c.args.names.now c.args.pattern.now) c.args.order.now _
    c.partition_point-start.ensures.partitioned (start_parts c.args.names.now c.args.order.now c.args.pattern.now c.requires)
    (λ a r q k. search rules))
    (IsPartitionPoint-from_clause (asks_end c.args.names.now c.args.pattern.now) c.args.order.now _
    c.partition_point-end.ensures.partitioned (end_parts c.args.names.now c.args.order.now c.args.pattern.now c.requires)
    (λ a r q k. search rules))

-- where the block would begin the pattern names no switch, so it is empty
pub returns-then-not-is_named_at : goal.returns-then-not-is_named_at
returns-then-not-is_named_at c =
    none_found c.args.names.now c.args.order.now c.args.pattern.now _ c.partition_point-start.ensures.bound c.requires
    (IsPartitionPoint-from_clause (asks_start c.args.names.now c.args.pattern.now) c.args.order.now _
    c.partition_point-start.ensures.partitioned (start_parts c.args.names.now c.args.order.now c.args.pattern.now c.requires)
    (λ a r q k. search rules))
    (c.is_named_at.ensures c.if-not-is_named_at.true)
