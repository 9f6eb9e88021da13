use Rattle.drv_match.proofs.Parts.{any_filter}
use Rattle.drv_match.specs.Matching.{IsNextHit, any_hits, hits, is_any_hit, is_hit}
use Rattle.drv_match.specs.Pattern.{Pattern}
use Rattle.std.proofs.Common.{◌≡◌, ◌<◌, ◌≤◌, ◌+◌, ◌-◌, ◌∙◌, ◌||◌, All, Bool, false, true, List, [], ◌∷◌, ◌++◌, None, Option}
use Rattle.std.proofs.Common.{Some, ap, append_assoc, append-nil, arith, filter, get_or, if◌then◌else◌, length, MatchOption}
use Rattle.std.proofs.Common.{nat_lt, refl, suc, sym, zero, ℕ}
use Rattle.std.proofs.Math.Bool.{or-false}
use Rattle.std.proofs.lemmas.List.Elements.{All-filter, All-from_all_within}
use Rattle.std.proofs.lemmas.List.Folds.{list_any_at}
use Rattle.std.proofs.lemmas.List.FromFn.{get_or-range_with_len, length-range_with_len}
use Rattle.std.specs.List.{list_any, range_with_len}

-- For any_hits and next_hit (switches.rt), which search the line in order if a pattern hits any of its switches.

-- tests that agree on a range leave the same of it
range_same : (f g : ℕ → Bool) (start n : ℕ) → ((i : ℕ) → start ≤ i → i < start + n → f i ≡ g i)
    → filter f (range_with_len start n) ≡ filter g (range_with_len start n)
range_same f g start zero same = refl
range_same f g start (suc n) same =
    let here : f start ≡ g start = same start (omega arith) (omega arith) in
    let rest : filter f (range_with_len (start + 1) n) ≡ filter g (range_with_len (start + 1) n) =
    range_same f g (start + 1) n (λ i low high. same i (omega (arith, low)) (omega (arith, high))) in
    ap (λ b. if b then start ∷ filter f (range_with_len (start + 1) n) else filter f (range_with_len (start + 1) n)) here
    ∙ ap (λ is. if g start then start ∷ is else is) rest

-- the numbers that a filter leaves of a range are in the range
below : (f : ℕ → Bool) (n : ℕ) → All (λ i. i < n) (filter f (range_with_len 0 n))
below f n = All-filter f (λ i. i < n) (range_with_len 0 n) (All-from_all_within (λ i. i < n) (range_with_len 0 n) (λ k d low high.
    let within : k < n = omega (arith, length-range_with_len 0 n, high) in
    rw (get_or-range_with_len 0 n k d within) (omega (arith, within))))

-- where nothing passes, nothing is left
none_of : (start n : ℕ) → filter (λ i. false) (range_with_len start n) ≡ []
none_of start zero = refl
none_of start (suc n) = none_of (start + 1) n

-- a list of one pattern
pub only_is : (patterns : List Pattern) (only : Pattern) → 1 ≤ length patterns → length patterns < 2 → only ≡ get_or patterns 0 only
    → only ∷ [] ≡ patterns
only_is [] only some few is = absurd (omega (arith, some))
only_is (p ∷ []) only some few is = ap (λ q. q ∷ []) is
only_is (p ∷ q ∷ patterns) only some few is = absurd (omega (arith, few))

-- the names of a line's switches, and which of them are hidden
module _ (names : List (List ℕ)) (hidden : List Bool) where
  -- the places that are hit are places of the line
  pub any_within : (patterns : List Pattern) (places : List ℕ) → places ≡ any_hits names hidden patterns
      → All (λ i. i < length names) places
  any_within patterns places is = rw is (below (is_any_hit names hidden patterns) (length names))

  -- the hits of one pattern are those of a list of it alone
  pub only_hits : (pattern : Pattern) → hits names hidden pattern ≡ any_hits names hidden (pattern ∷ [])
  only_hits pattern = range_same (is_hit names hidden pattern) (is_any_hit names hidden (pattern ∷ [])) 0 (length names)
      (λ i low high. sym (or-false (is_hit names hidden pattern i)))

  -- where no number of a range passes, none of them does
  not_in : (test : ℕ → Bool) (n i : ℕ) → list_any test (range_with_len 0 n) ≡ false → i < n → test i ≡ false
  not_in test n i none within = by (test i) refl
    where
      by : (t : Bool) → test i ≡ t → t ≡ false
      by false e = refl
      by true e =
          let there : get_or (range_with_len 0 n) i 0 ≡ i = get_or-range_with_len 0 n i 0 within ∙ omega arith in
          let found : list_any test (range_with_len 0 n) ≡ true =
          list_any_at test (range_with_len 0 n) i 0 (rw (length-range_with_len 0 n) within) (ap test there ∙ e) in
          sym found ∙ none

  -- whether the pattern hits a place of the line
  abbrev has_hit : Pattern → Bool
  has_hit pattern = nat_lt 0 (length (hits names hidden pattern))

  -- a pattern whose list of hits is empty hits no place
  hits_none : (pattern : Pattern) (i : ℕ) → has_hit pattern ≡ false → i < length names → is_hit names hidden pattern i ≡ false
  hits_none pattern i none within = not_in (is_hit names hidden pattern) (length names) i (any_filter (is_hit names hidden pattern)
      (range_with_len 0 (length names)) ∙ none) within

  -- patterns of which none has a hit hit no place
  any_none : (patterns : List Pattern) (i : ℕ) → list_any has_hit patterns ≡ false → i < length names
      → is_any_hit names hidden patterns i ≡ false
  any_none [] i none within = refl
  any_none (p ∷ patterns) i none within = by (has_hit p) refl none (λ e. any_none patterns i e within)
    where
      by : (t : Bool) → has_hit p ≡ t → (t || list_any has_hit patterns) ≡ false
          → (list_any has_hit patterns ≡ false → is_any_hit names hidden patterns i ≡ false) → is_any_hit names hidden (p ∷ patterns) i ≡ false
      by true is e rest = absurd cc
      by false is e rest = ap (λ t. t || is_any_hit names hidden patterns i) (hits_none p i is within) ∙ rest e

  -- so the list of their hits is empty
  pub no_hits : (patterns : List Pattern) → list_any has_hit patterns ≡ false → [] ≡ any_hits names hidden patterns
  no_hits patterns none = sym (range_same (is_any_hit names hidden patterns) (λ i. false) 0 (length names)
      (λ i low high. any_none patterns i none (omega (arith, high))) ∙ none_of 0 (length names))

  -- a pattern without a hit has no next one
  pub next_none : (pattern : Pattern) (from : ℕ) → has_hit pattern ≡ false → IsNextHit names hidden pattern from None
  next_none pattern from none = λ i low high. hits_none pattern i none high

  -- the first place that is hit from `from` on, by a search of the line, is the next hit
  pub next_found : (pattern : Pattern) (from end : ℕ) (found : Option ℕ) → end ≡ length names
      → MatchOption found ((k : ℕ) → from ≤ k → k < end → is_hit names hidden pattern k ≡ false)
      (λ i. (from ≤ i) × (i < end) × (is_hit names hidden pattern i ≡ true) × ((k : ℕ) → from ≤ k → k < i
      → is_hit names hidden pattern k ≡ false))
      → IsNextHit names hidden pattern from found
  next_found pattern from end None is none = λ i low high. none i low (omega (arith, is, high))
  next_found pattern from end (Some next) is (low, high, hit, before) = (low, omega (arith, is, high), hit, before)

  -- a place that is hit is the next hit from itself on
  pub next_itself : (pattern : Pattern) (from end : ℕ) → end ≡ length names → from < end
      → is_hit names hidden pattern from ≡ true → IsNextHit names hidden pattern from (Some from)
  next_itself pattern from end is within hit =
      (omega arith, omega (arith, is, within), hit, λ i low high. absurd (omega (arith, low, high)))

  -- The loop over the line.
  module _ (patterns : List Pattern) where
    -- the places from here on that one of the patterns hits
    abbrev pub hits_from : ℕ → List ℕ
    hits_from place = filter (is_any_hit names hidden patterns) (range_with_len place (length names - place))

    -- a range is its first number and the rest
    range_more : (place : ℕ) → place < length names → range_with_len place (length names - place) ≡ place ∷ range_with_len (place + 1)
        (length names - (place + 1))
    range_more place within = by (length names - place) (length names - (place + 1)) (omega (arith, within))
      where
        by : (n m : ℕ) → n ≡ suc m → range_with_len place n ≡ place ∷ range_with_len (place + 1) m
        by n m e = ap (range_with_len place) e

    -- before the first place none is taken, and all are left
    pub hits_first : (places : List ℕ) → places ≡ [] → places ++ hits_from 0 ≡ any_hits names hidden patterns
    hits_first places none = ap (λ ps. ps ++ hits_from 0) none ∙ by (length names - 0) (omega arith)
      where
        by : (n : ℕ) → n ≡ length names → filter (is_any_hit names hidden patterns) (range_with_len 0 n) ≡ any_hits names hidden patterns
        by n e = ap (λ m. filter (is_any_hit names hidden patterns) (range_with_len 0 m)) e

    -- a place that is hit is added
    pub place_kept : (places after whole : List ℕ) (place : ℕ) → place < length names → is_any_hit names hidden patterns place ≡ true
        → after ≡ places ++ place ∷ [] → places ++ hits_from place ≡ whole → after ++ hits_from (place + 1) ≡ whole
    place_kept places after whole place within hit is done =
        ap (λ ps. ps ++ hits_from (place + 1)) is ∙ append_assoc places (place ∷ []) (hits_from (place + 1))
        ∙ ap (λ ps. places ++ ps) (ap (λ b. if b then place ∷ hits_from (place + 1) else hits_from (place + 1)) (sym hit)
        ∙ ap (filter (is_any_hit names hidden patterns)) (sym (range_more place within))) ∙ done

    -- any other place is passed
    pub place_passed : (places whole : List ℕ) (place : ℕ) → place < length names → is_any_hit names hidden patterns place ≡ false
        → places ++ hits_from place ≡ whole → places ++ hits_from (place + 1) ≡ whole
    place_passed places whole place within missed done =
        ap (λ ps. places ++ ps) (ap (λ b. if b then place ∷ hits_from (place + 1) else hits_from (place + 1)) (sym missed)
        ∙ ap (filter (is_any_hit names hidden patterns)) (sym (range_more place within))) ∙ done

    -- at its end the places are complete
    pub places_done : (places whole : List ℕ) (place : ℕ) → length names ≤ place → places ++ hits_from place ≡ whole → places ≡ whole
    places_done places whole place past done = by (length names - place) (omega (arith, past)) done
      where
        by : (n : ℕ) → n ≡ 0 → places ++ filter (is_any_hit names hidden patterns) (range_with_len place n) ≡ whole → places ≡ whole
        by n e is = sym (append-nil places)
            ∙ ap (λ m. places ++ filter (is_any_hit names hidden patterns) (range_with_len place m)) (sym e) ∙ is
