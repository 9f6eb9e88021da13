use Rattle.drv_match.proofs.LineSearch.{any_within, no_hits, only_hits, only_is, place_kept, place_passed, places_done}
use Rattle.drv_match.proofs.switches.Switches.any_hits.Goals as goal
use Rattle.drv_match.specs.Matching.{any_hits}
use Rattle.drv_match.specs.Pattern.{Pattern}
use Rattle.std.proofs.Common.{All, IfOk, List, arith, length, subst, sym, ℕ, ◌≡◌, ◌<◌, ◌∙◌}
use Rattle.std.proofs.lemmas.Result.{IfOk-weaker}

-- the hits of the only pattern are all
pub returns-in-len1-clause-places : goal.returns-in-len1-clause-places
returns-in-len1-clause-places c =
    subst (λ (patterns : List Pattern). IfOk c.hits.result (λ places. places ≡ any_hits c.args.self.now c.args.hidden.now patterns))
    (only_is c.args.patterns.now c.only-item.result c.in-len1.len_at_least c.in-len1.len_below c.only-item.is)
    (subst (λ (xs : List ℕ). IfOk c.hits.result (λ places. places ≡ xs)) (only_hits c.args.self.now c.args.hidden.now c.only-item.result)
    c.hits.ensures)

-- they are places of the line
pub returns-in-len1-clause-within : goal.returns-in-len1-clause-within
returns-in-len1-clause-within c =
    IfOk-weaker c.hits.result (λ (places : List ℕ). places ≡ any_hits c.args.self.now c.args.hidden.now c.args.patterns.now)
    (λ (places : List ℕ). All (λ place. place < length c.args.self.now) places)
    (λ places is. any_within c.args.self.now c.args.hidden.now c.args.patterns.now places is) (returns-in-len1-clause-places c)

-- no pattern hits anything
pub returns-then-not-have_hits-clause-places : goal.returns-then-not-have_hits-clause-places
returns-then-not-have_hits-clause-places c =
    c.new.ensures ∙ no_hits c.args.self.now c.args.hidden.now c.args.patterns.now (sym c.have_hits.ensures ∙ c.if-not-have_hits.true)

-- a place that none of them hits is passed
pub loop-place-preserved-then-not-is_any_hit : goal.loop-place-preserved-then-not-is_any_hit
loop-place-preserved-then-not-is_any_hit c =
    place_passed c.args.self.now c.args.hidden.now c.args.patterns.now c.loop-place.places.items
    (any_hits c.args.self.now c.args.hidden.now c.args.patterns.now) c.loop-place.place
    (omega (arith, c.loop-place-test.true, c.len-place-end.ensures)) (sym c.is_any_hit.ensures ∙ c.if-not-is_any_hit.true)
    c.loop-place.invariant

-- a place that one of them hits is added
pub loop-place-preserved : goal.loop-place-preserved
loop-place-preserved c =
    place_kept c.args.self.now c.args.hidden.now c.args.patterns.now c.loop-place.places.items c.push.new.self.items
    (any_hits c.args.self.now c.args.hidden.now c.args.patterns.now) c.loop-place.place
    (omega (arith, c.loop-place-test.true, c.len-place-end.ensures)) (sym c.is_any_hit.ensures ∙ c.if-not-is_any_hit.false)
    c.in_ok-push.ensures.items c.loop-place.invariant

-- after the last place of the line they are all
pub returns-clause-within : goal.returns-clause-within
returns-clause-within c =
    any_within c.args.self.now c.args.hidden.now c.args.patterns.now c.from_vec.result
    (c.from_vec.ensures ∙ places_done c.args.self.now c.args.hidden.now c.args.patterns.now c.loop-place.places.items
    (any_hits c.args.self.now c.args.hidden.now c.args.patterns.now) c.loop-place.place
    (omega (arith, c.loop-place-test.false, c.len-place-end.ensures)) c.loop-place.invariant)
