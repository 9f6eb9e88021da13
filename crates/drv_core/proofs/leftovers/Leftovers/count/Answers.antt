use Rattle.drv_core.proofs.Sweeping.{called_on, few_more, noted_on}
use Rattle.drv_core.proofs.leftovers.Leftovers.count.Goals as goal
use Rattle.std.proofs.Common.{◌∙◌}

-- one event more is counted
pub loop-index-preserved : goal.loop-index-preserved
loop-index-preserved c = record {
  claimed = noted_on c.loop-index.self.claimed.items c.note.new.self.claimed.items c.args.self.now.claimed.items c.args.events.now
      c.loop-index.index _ c.loop-index-test.true c.note.ensures.claimed c.loop-index.invariant.claimed;
  called = called_on c.loop-index.self.called.items c.note.new.self.called.items c.args.self.now.called.items c.args.events.now
      c.loop-index.index _ c.loop-index-test.true c.note.ensures.called c.loop-index.invariant.called;
  few = λ k. few_more c.loop-index.self.claimed.items c.note.new.self.claimed.items c.args.events.now c.loop-index.index k _
      c.note.ensures.claimed (c.loop-index.invariant.few k);
  files = c.note.ensures.files ∙ c.loop-index.invariant.files;
  gone = c.note.ensures.gone ∙ c.loop-index.invariant.gone;
  due = c.note.ensures.due ∙ c.loop-index.invariant.due;
}
