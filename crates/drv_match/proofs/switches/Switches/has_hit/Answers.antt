use Rattle.drv_match.proofs.Parts.{counts, named_any, named_place}
use Rattle.drv_match.proofs.switches.Switches.has_hit.Goals as goal
use Rattle.drv_match.specs.Matching.{is_broad}
use Rattle.std.proofs.Common.{◌<◌, ◌∙◌, length, rules, tests}
use Rattle.std.proofs.lemmas.Iterator.{YieldsList-from_slice}
use Rattle.std.proofs.lemmas.Iterator.Adapters.{serves_from_places}
use Rattle.std.proofs.lemmas.Iterator.Search.{any_from_yields_List}

-- Names: `counts`: whether a place that a pattern names counts. `named_any`: some named place counts exactly if the pattern has a hit.

-- each place that the test is asked for is one of the line
pub any-requires-clause-callable : goal.any-requires-clause-callable
any-requires-clause-callable c =
    serves_from_places (YieldsList-from_slice c.named_places-named.result.now c.iter.ensures.rest) (λ x q k. search (rules, tests))
    (λ x k lt at. let within : x.now < length c.args.self.now =
    named_place c.args.self.now c.args.pattern.now c.named_places-named.result.now c.named_places-named.ensures k x.now lt at in
    search (rules, within))

-- the test holds for one of the places that the pattern names
pub returns : goal.returns
returns c =
    any_from_yields_List (counts c.args.self.now c.args.hidden.now (is_broad c.args.pattern.now)) _ _ _ c.any.ensures.ran
    (YieldsList-from_slice c.named_places-named.result.now c.iter.ensures.rest) (λ x b q k. search (rules, tests))
    ∙ named_any c.args.self.now c.named_places-named.result.now c.args.hidden.now c.args.pattern.now c.named_places-named.ensures
