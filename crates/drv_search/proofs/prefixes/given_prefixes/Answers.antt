use Rattle.drv_search.proofs.Candidates.{prefix_more}
use Rattle.drv_system.proofs.AskedCalls.{asked_further, extends_before}
use Rattle.drv_search.proofs.prefixes.given_prefixes.Goals as goal

-- Names: `prefix_more`: the prefixes so far with one more, in the code's loop. `asked_further`: calls that only asked, one after another.

-- one more argument gives its prefix
pub loop-dir-preserved : goal.loop-dir-preserved
loop-dir-preserved g c = record {
  asks = asked_further c.loop-dir.invariant.asks c.prefix_of.ensures.asks;
  rest = λ F e.
      prefix_more F c.args.dirs.now c.loop-dir.dir-index c.dir-item.result c.in_ok-prefix_of.field-0 c.loop-dir.given c.push.new.self
      c.loop-dir-test.true c.dir-item.is (c.in_ok-prefix_of.ensures.prefix F e) c.in_ok-push.ensures.ok
      (c.loop-dir.invariant.rest F (extends_before c.prefix_of.ensures.asks e));
}
