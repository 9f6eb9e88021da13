use Rattle.drv_cc.proofs.Staying.{keeping_more, last_part}
use Rattle.drv_cc.proofs.keeping.kept_backwards.Goals as goal
use Rattle.drv_cc.specs.Code.Staying.{is_seen}
use Rattle.std.proofs.Common.{◌-◌, length, take}

-- The last of the items that are left is judged by the classes seen, and noted among them.
pub loop-left-preserved : goal.loop-left-preserved
loop-left-preserved c =
    keeping_more c.args.items.now c.loop-left.left.now (take (length c.loop-left.left.now - 1) c.loop-left.left.now) c.loop-left.stay.items
    c.keep_item.new.stay.items c.item-item.result (is_seen c.loop-left.seen.keys (λ k. k))
    (is_seen c.keep_item.new.seen.keys (λ k. k))
    c.loop-left.invariant (last_part c.loop-left.left.now c.item-item.result c.in-len1-up.len_at_least c.item-item.is)
    c.in_ok-keep_item.ensures.kept
    c.in_ok-keep_item.ensures.noted
