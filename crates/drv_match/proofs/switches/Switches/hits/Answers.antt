use Rattle.drv_match.proofs.Parts.{counted, counts, named_hits, named_within}
use Rattle.drv_match.proofs.switches.Switches.hits.Goals as goal
use Rattle.drv_match.specs.Matching.{is_broad}
use Rattle.std.proofs.Common.{◌∙◌, arith}
use Rattle.std.proofs.lemmas.List.Sorted.{IsNonDecreasingBy-from_sort}

-- Names: `counted`: at the end of the loop the places that count are complete. `counts`: whether a place that a pattern names counts.

-- a place that the pattern names is one of the line
pub counts-requires : goal.counts-requires
counts-requires c = named_within c.args.self.now c.args.pattern.now c.named_places-named.result.now
    c.named_places-named.ensures
    c.loop-place.place-index (omega arith)

-- after the last of the named places the hits are those that count
pub returns : goal.returns
returns c = c.from_vec.ensures ∙ named_hits c.args.self.now c.named_places-named.result.now c.loop-place.places.items _ c.args.hidden.now
    c.args.pattern.now c.named_places-named.ensures (counted (counts c.args.self.now c.args.hidden.now (is_broad c.args.pattern.now))
    c.loop-place.places.items c.named_places-named.result.now c.loop-place.place-index (omega arith) c.loop-place.invariant)
    c.sort_unstable.ensures.permutation (IsNonDecreasingBy-from_sort (λ i. i) _ c.sort_unstable.ensures.sorted)
