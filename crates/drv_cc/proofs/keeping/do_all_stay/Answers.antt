use Rattle.drv_cc.proofs.Staying.{all_break, all_more, last_part}
use Rattle.drv_cc.proofs.keeping.do_all_stay.Goals as goal
use Rattle.drv_cc.specs.Code.Staying.{is_seen}
use Rattle.std.proofs.Common.{◌-◌, ◌∙◌, length, sym, take}

-- Names: `last_part`: the last part of a list. `is_seen`: whether a class is that of a key. `all_break`: or at an item that goes.

-- The item stays, and its class is noted: what the loop knows holds of the items before it.
pub loop-left-preserved : goal.loop-left-preserved
loop-left-preserved c =
    all_more c.args.items.now c.loop-left.left.now (take (length c.loop-left.left.now - 1) c.loop-left.left.now) c.item-item.result
    (is_seen c.loop-left.seen.keys (λ k. k)) _
    c.loop-left.invariant (last_part c.loop-left.left.now c.item-item.result c.in-len1-up.len_at_least c.item-item.is)
    (sym c.if-not-stays.false ∙ c.in_ok-stays.ensures.stays)
    c.in_ok-stays.ensures.noted

pub returns-then-not-stays : goal.returns-then-not-stays
returns-then-not-stays c =
    all_break c.args.items.now c.loop-left.left.now (take (length c.loop-left.left.now - 1) c.loop-left.left.now) c.item-item.result
    (is_seen c.loop-left.seen.keys (λ k. k)) c.loop-left.invariant
    (last_part c.loop-left.left.now c.item-item.result c.in-len1-up.len_at_least c.item-item.is)
    (sym c.if-not-stays.true ∙ c.in_ok-stays.ensures.stays)
