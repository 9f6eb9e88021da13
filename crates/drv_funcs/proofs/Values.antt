use Rattle.drv_funcs.specs.Outcome.{last}
use Rattle.drv_match.specs.Matching.{hits, is_hit}
use Rattle.drv_match.specs.Pattern.{Pattern}
use Rattle.std.proofs.Common.{◌≡◌, ◌<◌, ◌-◌, Bool, List, Some, arith, length, ℕ}
use Rattle.std.proofs.lemmas.List.Elements.{All-filter, All-get_or}
use Rattle.std.proofs.lemmas.List.FromFn.{get_or-range_with_len, length-range_with_len}
use Rattle.std.proofs.lemmas.Option.{get_or_from_slice_get, slice_get_within}
use Rattle.std.specs.List.{All, range_with_len, slice_get}

-- For version-compare: the last place that a pattern hits is a place of the line.

-- the last of numbers below a bound is below it
below_all : (found : List ℕ) (bound place : ℕ) → All (λ i. i < bound) found → slice_get found (length found - 1) ≡ Some place
    → place < bound
below_all found bound place all is = rw (← get_or_from_slice_get found (length found - 1) place 0 is)
    (All-get_or (λ i. i < bound) found (length found - 1) 0 (slice_get_within found (length found - 1) place is) all)

-- all places of a line are below its length
places_below : (n : ℕ) → All (λ i. i < n) (range_with_len 0 n)
places_below n = λ k d inside. let within : k < n = omega (arith, length-range_with_len 0 n, inside) in
    rw (get_or-range_with_len 0 n k d within) (omega (arith, within))

-- so the last place of a hit is a place of the line
pub last_within : (names : List (List ℕ)) (hidden : List Bool) (pattern : Pattern) (place : ℕ)
    → last (hits names hidden pattern) ≡ Some place → place < length names
last_within names hidden pattern place is = below_all (hits names hidden pattern) (length names) place
    (All-filter (is_hit names hidden pattern) (λ i. i < length names) (range_with_len 0 (length names)) (places_below (length names))) is
