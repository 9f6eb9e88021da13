use Rattle.drv_search.proofs.Options.{after_options, prefix_done}
use Rattle.drv_search.proofs.folders.push_all.Goals as goal
use Rattle.drv_search.specs.Search.{folders_under, options_for}
use Rattle.drv_system.proofs.AskedCalls.{asked_further, extends_before}
use Rattle.std.proofs.Common.{flat_map}

-- Names: `after_options`: the options so far, followed by others. `prefix_done`: one more prefix, by its bytes, and the end of the list.

-- one more prefix adds its options
pub loop-prefix-preserved : goal.loop-prefix-preserved
loop-prefix-preserved g c = record {
  asks = asked_further c.loop-prefix.invariant.asks c.push_options.ensures.asks;
  rest = λ F e.
      prefix_done F c.args.prefixes.now c.loop-prefix.prefix-index c.prefix-item.result c.as_bytes.result.now c.loop-prefix.options
      c.push_options.new.options
      (after_options c.args.options.now (options_for F (flat_map folders_under c.args.prefixes.now))) c.loop-prefix-test.true
      c.prefix-item.is c.as_bytes.ensures (c.in_ok-push_options.ensures.options F e)
      (c.loop-prefix.invariant.rest F (extends_before c.push_options.ensures.asks e));
}
