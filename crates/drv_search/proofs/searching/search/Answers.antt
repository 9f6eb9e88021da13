use Rattle.drv_search.proofs.Candidates.{prefix_hit, prefix_missed}
use Rattle.drv_system.proofs.AskedCalls.{asked_further, extends_before}
use Rattle.drv_search.proofs.searching.search.Goals as goal
use Rattle.std.proofs.Common.{◌∙◌, sym}

-- Names: `extends_before`: what extends the facts after a call extends those before it. `prefix_hit`: a file under this prefix.
-- `prefix_missed`: nothing under this prefix.

-- the first prefix with a file ends the search
pub returns-in-Some-clause-hit : goal.returns-in-Some-clause-hit
returns-in-Some-clause-hit g c F e =
    sym (c.loop-prefix.invariant.rest F (extends_before c.found_under.ensures.asks e))
    ∙ prefix_hit F c.args.prefixes.now c.args.name.now c.loop-prefix.prefix-index c.prefix-item.result c.as_bytes.result.now c.in-Some.hit
    c.in_ok-hit.field-0
    c.loop-prefix-test.true c.prefix-item.is c.as_bytes.ensures (c.in_ok-hit.ensures.hit F e) c.in-Some.is

-- nothing is found under this prefix, so the others decide
pub loop-prefix-preserved : goal.loop-prefix-preserved
loop-prefix-preserved g c = record {
  asks = asked_further c.loop-prefix.invariant.asks c.found_under.ensures.asks;
  rest = λ F e.
      prefix_missed F c.args.prefixes.now c.args.name.now c.loop-prefix.prefix-index c.prefix-item.result c.as_bytes.result.now
      c.in_ok-hit.field-0
      c.loop-prefix-test.true c.prefix-item.is c.as_bytes.ensures (c.in_ok-hit.ensures.hit F e) c.in_default.is
      ∙ c.loop-prefix.invariant.rest F (extends_before c.found_under.ensures.asks e);
}
