use Rattle.drv_args.proofs.LineSteps.{next_item}
use Rattle.drv_args.proofs.items.note_items.Goals as goal

-- Names: `next_item`: the next item of a list.

pub loop-item-preserved : goal.loop-item-preserved
loop-item-preserved c =
    next_item c.loop-item.builder c.note.new.self c.args.items.now c.loop-item.item-index c.item-item.result c.as_bytes-option.result.now
    c.as_bytes.result.now _
    c.loop-item-test.true c.item-item.is c.as_bytes-option.ensures c.as_bytes.ensures c.in_ok-note.ensures c.loop-item.invariant
