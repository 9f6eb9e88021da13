use Rattle.drv_match.proofs.ByName.{has_place, in_range}
use Rattle.drv_match.proofs.Tallies.{same_rising, tally, tally_filter, tally_permutation}
use Rattle.drv_match.specs.Code.Indexed.{AreNamed}
use Rattle.drv_match.specs.Matching.{hidden_by, hits, is_broad, is_hit, is_live, is_named, name_at}
use Rattle.drv_match.specs.Order.{IsBlock, IsOrder}
use Rattle.drv_match.specs.Pattern.{Pattern}
use Rattle.std.proofs.Common.{◌≡◌, ◌<◌, ◌≤◌, ◌+◌, ◌-◌, ◌∙◌, ◌&&◌, ◌||◌, ◌==◌, Bool, false, true, List, [], ◌∷◌, ◌++◌, ap}
use Rattle.std.proofs.Common.{append-nil, arith, drop, filter, get_or, if◌then◌else◌, length, nat_eq, nat_lt, not, refl, set, suc, sym}
use Rattle.std.proofs.Common.{take, zero, ℕ}
use Rattle.std.proofs.Math.Bool.{or-false, or-true}
use Rattle.std.proofs.lemmas.Bool.{eqb-true, lt-ltb, ltb-false, ltb-true, ne_eqb}
use Rattle.std.proofs.lemmas.Cmp.{nat_eq_equiv}
use Rattle.std.proofs.lemmas.List.{drop_all, get_or_default, get_or-set_other, get_or-set_same, length-set}
use Rattle.std.proofs.lemmas.List.Elements.{All-drop, All-get_or, All-take}
use Rattle.std.proofs.lemmas.List.Folds.{list_any_at, list_any_none}
use Rattle.std.proofs.lemmas.List.FromFn.{get_or-range_with_len, length-range_with_len}
use Rattle.std.proofs.lemmas.List.Kept.{IsNonDecreasingBy-filter}
use Rattle.std.proofs.lemmas.List.Sorted.{list_any-IsPermutation}
use Rattle.std.specs.List.{AllWithin, list_any, range_with_len}
use Rattle.std.specs.List.Sorted.{IsNonDecreasing, IsPermutation}

-- For hits (switches.rt): the places that a pattern hits are in its block, the part of the places by name in which it names the switch. Of
-- the block's places those count that are neither hidden nor cancelled (`counts`); sorted, they are the hits.
-- Names: `names` is the names of the switches of a line, in order. `order` is the places of the switches, in the order of their names.
-- `pattern` is a pattern of a spec text. `hidden` says of each place whether its switch is hidden. `i` is a place on the line. `k` is an
-- index in a list. `start` is where the block begins in the order. `end` is where a block ends in the order. `places` is places of the
-- line. `xs` is numbers. `t` is the value of a test, so that `by` can go by both cases. `test` is a test of places. `x` is a place too.
-- `found` is the places of a block that count. `name_at names i` is the name at place i. `is_named pattern name` says whether the pattern
-- names it. `is_broad` says that a pattern hits cancelled switches too. `is_hit` says that the pattern hits the switch at a place. `hits`
-- is the places that a pattern hits. `IsOrder names order` says that the order is by name, then by place. `hidden_by` hides what a pattern
-- hits. `IsBlock names order pattern start end`: In that order, the pattern names exactly the places from the start to before the end.
-- `AreNamed names pattern places`: the places that a pattern names, by name, then by place.

-- in a list, a test holds exactly from a start to an end
record IsPart (test : ℕ → Bool) (xs : List ℕ) (start end : ℕ) : Type 0 where
  before : AllWithin (λ x. test x ≡ false) xs 0 start
  inside : AllWithin (λ x. test x ≡ true) xs start end
  following : AllWithin (λ x. test x ≡ false) xs end (length xs)

-- a filter by two tests, the first of which holds on a part of the list alone, is the second's filter of that part
part_filter : (test other : ℕ → Bool) (xs : List ℕ) (start end : ℕ) → start ≤ end → end ≤ length xs → IsPart test xs start end
    → filter (λ x. test x && other x) xs ≡ filter other (take (end - start) (drop start xs))
part_filter test other [] zero zero low high p = refl
part_filter test other [] zero (suc end) low high p = absurd (omega (arith, high))
part_filter test other [] (suc start) end low high p = absurd (omega (arith, low, high))
part_filter test other (x ∷ xs) zero zero low high p =
    let no : test x ≡ false = p.following 0 0 (omega arith) (omega arith) in
    let rest : IsPart test xs 0 0 = record {
      before = λ k d from to. absurd (omega (arith, to));
      inside = λ k d from to. absurd (omega (arith, to));
      following = λ k d from to. p.following (suc k) d (omega arith) (omega (arith, to));
    } in
    rw no (part_filter test other xs 0 0 (omega arith) (omega arith) rest)
part_filter test other (x ∷ xs) zero (suc end) low high p =
    let yes : test x ≡ true = p.inside 0 0 (omega arith) (omega arith) in
    let rest : IsPart test xs 0 end = record {
      before = λ k d from to. absurd (omega (arith, to));
      inside = λ k d from to. p.inside (suc k) d (omega arith) (omega (arith, to));
      following = λ k d from to. p.following (suc k) d (omega (arith, from)) (omega (arith, to));
    } in
    let size : suc end - 0 ≡ suc (end - 0) = omega arith in
    rw (yes, part_filter test other xs 0 end (omega arith) (omega (arith, high)) rest, size) refl
part_filter test other (x ∷ xs) (suc start) zero low high p = absurd (omega (arith, low))
part_filter test other (x ∷ xs) (suc start) (suc end) low high p =
    let no : test x ≡ false = p.before 0 0 (omega arith) (omega arith) in
    let rest : IsPart test xs start end = record {
      before = λ k d from to. p.before (suc k) d (omega arith) (omega (arith, to));
      inside = λ k d from to. p.inside (suc k) d (omega (arith, from)) (omega (arith, to));
      following = λ k d from to. p.following (suc k) d (omega (arith, from)) (omega (arith, to));
    } in
    let size : suc end - suc start ≡ end - start = omega arith in
    rw (no, size) (part_filter test other xs start end (omega (arith, low)) (omega (arith, high)) rest)

-- some item passes exactly if the filter leaves one
pub any_filter : (test : ℕ → Bool) (xs : List ℕ) → list_any test xs ≡ nat_lt 0 (length (filter test xs))
any_filter test [] = refl
any_filter test (x ∷ xs) = by (test x) refl (any_filter test xs)
  where
    by : (t : Bool) → test x ≡ t → list_any test xs ≡ nat_lt 0 (length (filter test xs))
        → list_any test (x ∷ xs) ≡ nat_lt 0 (length (filter test (x ∷ xs)))
    by true e ih = rw e (sym (lt-ltb 0 (suc (length (filter test xs))) (omega arith)))
    by false e ih = rw e ih

-- equal tests leave the same numbers
filter_same : (f g : ℕ → Bool) → ((x : ℕ) → f x ≡ g x) → (xs : List ℕ) → filter f xs ≡ filter g xs
filter_same f g same [] = refl
filter_same f g same (x ∷ xs) = rw (same x, filter_same f g same xs) refl

-- whether a place that a pattern names counts: it isn't hidden, and it isn't cancelled or the pattern is broad
abbrev pub counts : List (List ℕ) → List Bool → Bool → ℕ → Bool
counts names hidden broad i = not (get_or hidden i false) && (broad || is_live names i)

-- a place is hit if the pattern names it and it counts
pub named_first : (names : List (List ℕ)) (hidden : List Bool) (pattern : Pattern) (i : ℕ)
    → is_hit names hidden pattern i ≡ (is_named pattern (name_at names i) && counts names hidden (is_broad pattern) i)
named_first names hidden pattern i = by (not (get_or hidden i false)) (is_named pattern (name_at names i))
    (is_broad pattern || is_live names i)
  where
    by : (t u v : Bool) → ((t && u) && v) ≡ (u && (t && v))
    by true u v = refl
    by false true v = refl
    by false false v = refl

-- a block is the part of the order in which the pattern names a place
as_part : (names : List (List ℕ)) (order : List ℕ) (pattern : Pattern) (start end : ℕ) → IsBlock names order pattern start end
    → IsPart (λ i. is_named pattern (name_at names i)) order start end
as_part names order pattern start end b = record { before = b.before; inside = b.named; following = b.following }

-- the hits among all places by name are those of the block that count
pub order_hits : (names : List (List ℕ)) (order : List ℕ) (hidden : List Bool) (pattern : Pattern) (start end : ℕ)
    → IsBlock names order pattern start end → filter (is_hit names hidden pattern) order ≡ filter (counts names hidden (is_broad pattern))
    (take (end - start) (drop start order))
order_hits names order hidden pattern start end b =
    filter_same (is_hit names hidden pattern) (λ i. is_named pattern (name_at names i) && counts names hidden (is_broad pattern) i)
    (named_first names hidden pattern) order
    ∙ part_filter (λ i. is_named pattern (name_at names i)) (counts names hidden (is_broad pattern)) order start end b.ascends b.within
    (as_part names order pattern start end b)

-- the numbers of a range don't decrease
range_rises : (n : ℕ) → IsNonDecreasing (range_with_len 0 n)
range_rises n = λ i j d low high.
    let within : j < n = omega (arith, length-range_with_len 0 n, high) in
    rw (get_or-range_with_len 0 n i d (omega (arith, low, within)), get_or-range_with_len 0 n j d within) (omega (arith, low))

-- the places that count in the block, sorted, are the hits
pub hits_sorted : (names : List (List ℕ)) (order found places : List ℕ) (hidden : List Bool) (pattern : Pattern) (start end : ℕ)
    → IsOrder names order → IsBlock names order pattern start end → found ≡ filter (counts names hidden (is_broad pattern))
    (take (end - start) (drop start order)) → IsPermutation found places → IsNonDecreasing places → places ≡ hits names hidden pattern
hits_sorted names order found places hidden pattern start end o b is moved up = same_rising places (hits names hidden pattern) up
    (IsNonDecreasingBy-filter (λ x. x) (is_hit names hidden pattern) (range_with_len 0 (length names)) (range_rises (length names))) same
  where
    -- Plan: both lists are in order and have each place equally often (`same`), so they are the same.
    same : (n : ℕ) → tally n places ≡ tally n (hits names hidden pattern)
    same n = sym (tally_permutation n found places moved)
        ∙ ap (tally n) (is ∙ sym (order_hits names order hidden pattern start end b))
        ∙ tally_filter (is_hit names hidden pattern) n order
        ∙ ap (λ m. if is_hit names hidden pattern n then m else 0)
        (sym (tally_permutation n (range_with_len 0 (length names)) order o.places))
        ∙ sym (tally_filter (is_hit names hidden pattern) n (range_with_len 0 (length names)))

-- a place of the block counts exactly if there is a hit
pub any_hit : (names : List (List ℕ)) (order : List ℕ) (hidden : List Bool) (pattern : Pattern) (start end : ℕ) → IsOrder names order
    → IsBlock names order pattern start end → list_any (counts names hidden (is_broad pattern)) (take (end - start) (drop start order))
    ≡ nat_lt 0 (length (hits names hidden pattern))
any_hit names order hidden pattern start end o b =
    any_filter (counts names hidden (is_broad pattern)) (take (end - start) (drop start order))
    ∙ ap (λ xs. nat_lt 0 (length xs)) (sym (order_hits names order hidden pattern start end b))
    ∙ sym (any_filter (is_hit names hidden pattern) order)
    ∙ sym (list_any-IsPermutation (is_hit names hidden pattern) (range_with_len 0 (length names)) order o.places)
    ∙ any_filter (is_hit names hidden pattern) (range_with_len 0 (length names))

-- Hiding places one by one.

-- the flags after these places are hidden too
abbrev pub all_hidden : List ℕ → List Bool → List Bool
all_hidden [] hidden = hidden
all_hidden (i ∷ places) hidden = all_hidden places (set hidden i true)

-- hiding places leaves as many flags
pub hidden_length : (places : List ℕ) (hidden : List Bool) → length (all_hidden places hidden) ≡ length hidden
hidden_length [] hidden = refl
hidden_length (i ∷ places) hidden = hidden_length places (set hidden i true) ∙ length-set hidden i true

-- after places are hidden a flag is set if it was before, or its place is one of these
pub hidden_at : (places : List ℕ) (hidden : List Bool) (i : ℕ) → i < length hidden → get_or (all_hidden places hidden) i false
    ≡ (get_or hidden i false || list_any (nat_eq i) places)
hidden_at [] hidden i within = sym (or-false (get_or hidden i false))
hidden_at (j ∷ places) hidden i within = hidden_at places (set hidden j true) i (rw (length-set hidden j true) within) ∙ by (i == j) refl
  where
    -- Plan: by whether the place is the one that is hidden.
    by : (t : Bool) → (i == j) ≡ t → (get_or (set hidden j true) i false || list_any (nat_eq i) places)
        ≡ (get_or hidden i false || (nat_eq i j || list_any (nat_eq i) places))
    by true e =
        let same : i ≡ j = eqb-true i j e in
        rw (e, ← same, get_or-set_same hidden i true false within) (sym (or-true (get_or hidden i false)))
    by false e = rw (
      e,
      get_or-set_other hidden j i true false
          (λ same. absurd (let clash : true ≡ false = sym (nat_eq_equiv.refl i) ∙ ap (λ z. i == z) same ∙ e in cc)),
    ) refl

-- whether a list has this place, and it passes a test
pub at_place : (test : ℕ → Bool) (i : ℕ) (xs : List ℕ) → list_any (λ x. test x && nat_eq i x) xs ≡ (test i && list_any (nat_eq i) xs)
at_place test i [] = by (test i)
  where
    by : (t : Bool) → false ≡ (t && false)
    by true = refl
    by false = refl
at_place test i (x ∷ xs) = by (i == x) (test i) refl refl (at_place test i xs)
  where
    -- Plan: by whether the first number of the list is the place, and whether it passes.
    second : (t : Bool) → list_any (λ y. test y && nat_eq i y) xs ≡ (test i && list_any (nat_eq i) xs)
        → ((t && false) || list_any (λ y. test y && nat_eq i y) xs) ≡ (test i && list_any (nat_eq i) xs)
    second true ih = ih
    second false ih = ih

    by : (t u : Bool) → (i == x) ≡ t → test i ≡ u → list_any (λ y. test y && nat_eq i y) xs ≡ (test i && list_any (nat_eq i) xs)
        → list_any (λ y. test y && nat_eq i y) (x ∷ xs) ≡ (test i && list_any (nat_eq i) (x ∷ xs))
    by true true e is ih = let same : i ≡ x = eqb-true i x e in let yes : test x ≡ true = sym (ap test same) ∙ is in rw (e, yes, is) refl
    by true false e is ih =
        let same : i ≡ x = eqb-true i x e in
        let no : test x ≡ false = sym (ap test same) ∙ is in
        rw (no, is) (ih ∙ rw is refl)
    by false u e is ih = rw e (second (test x) ih)

-- a place is in the block exactly if the pattern names it
pub block_has : (names : List (List ℕ)) (order : List ℕ) (pattern : Pattern) (start end i : ℕ) → IsOrder names order
    → IsBlock names order pattern start end → i < length names → list_any (nat_eq i) (take (end - start) (drop start order))
    ≡ is_named pattern (name_at names i)
block_has names order pattern start end i o b within =
    let found = has_place names order o i within in
    let here : list_any (nat_eq i) order ≡ true = list_any_at (nat_eq i) order found.0 i found.1 (rw found.2 (nat_eq_equiv.refl i)) in
    any_filter (nat_eq i) (take (end - start) (drop start order))
    ∙ ap (λ xs. nat_lt 0 (length xs)) (sym (part_filter (λ j. is_named pattern (name_at names j)) (nat_eq i) order start end b.ascends
    b.within (as_part names order pattern start end b)))
    ∙ sym (any_filter (λ j. is_named pattern (name_at names j) && nat_eq i j) order)
    ∙ at_place (λ j. is_named pattern (name_at names j)) i order
    ∙ ap (λ t. is_named pattern (name_at names i) && t) here
    ∙ all_of (is_named pattern (name_at names i))
  where
    all_of : (t : Bool) → (t && true) ≡ t
    all_of true = refl
    all_of false = refl

-- hiding what a pattern names leaves as many flags
pub hidden_by-length : (pattern : Pattern) (names : List (List ℕ)) (hidden : List Bool) → length (hidden_by pattern names hidden)
    ≡ length hidden
hidden_by-length pattern [] hidden = refl
hidden_by-length pattern (name ∷ names) [] = refl
hidden_by-length pattern (name ∷ names) (h ∷ hidden) = ap suc (hidden_by-length pattern names hidden)

-- after what a pattern names is hidden a flag is set if it was before, or the pattern names the switch
hidden_by-at : (pattern : Pattern) (names : List (List ℕ)) (hidden : List Bool) (i : ℕ) → i < length hidden → i < length names
    → get_or (hidden_by pattern names hidden) i false ≡ (get_or hidden i false || is_named pattern (name_at names i))
hidden_by-at pattern [] hidden i here within = absurd (omega (arith, within))
hidden_by-at pattern (name ∷ names) [] i here within = absurd (omega (arith, here))
hidden_by-at pattern (name ∷ names) (h ∷ hidden) zero here within = refl
hidden_by-at pattern (name ∷ names) (h ∷ hidden) (suc i) here within = hidden_by-at pattern names hidden i (omega (arith, here))
    (omega (arith, within))

-- a flag of no switch stays as it is
hidden_by-past : (pattern : Pattern) (names : List (List ℕ)) (hidden : List Bool) (i : ℕ) → length names ≤ i
    → get_or (hidden_by pattern names hidden) i false ≡ get_or hidden i false
hidden_by-past pattern [] hidden i past = refl
hidden_by-past pattern (name ∷ names) [] i past = refl
hidden_by-past pattern (name ∷ names) (h ∷ hidden) zero past = absurd (omega (arith, past))
hidden_by-past pattern (name ∷ names) (h ∷ hidden) (suc i) past = hidden_by-past pattern names hidden i (omega (arith, past))

-- two lists of flags that agree at each place are the same
same_flags : (xs ys : List Bool) → length xs ≡ length ys → ((i : ℕ) → i < length xs → get_or xs i false ≡ get_or ys i false) → xs ≡ ys
same_flags [] [] same at = refl
same_flags [] (y ∷ ys) same at = absurd (omega (arith, same))
same_flags (x ∷ xs) [] same at = absurd (omega (arith, same))
same_flags (x ∷ xs) (y ∷ ys) same at =
    let rest : xs ≡ ys = same_flags xs ys (omega (arith, same)) (λ i within. at (suc i) (omega (arith, within))) in
    ap (λ z. z ∷ xs) (at 0 (omega arith)) ∙ ap (λ zs. y ∷ zs) rest

-- the places of the block are places of the line
pub block_within : (names : List (List ℕ)) (order : List ℕ) (pattern : Pattern) (start end : ℕ) → IsOrder names order
    → IsBlock names order pattern start end → (k : ℕ) → k < length (take (end - start) (drop start order))
    → get_or (take (end - start) (drop start order)) k 0 < length names
block_within names order pattern start end o b k within = All-get_or (λ i. i < length names) (take (end - start) (drop start order)) k 0
    within (All-take (λ i. i < length names) (end - start) (drop start order) (All-drop (λ i. i < length names) start order
    (λ j d inside. in_range names order o j d inside)))

-- a place past the line is none of the block's
block_lacks : (names : List (List ℕ)) (order : List ℕ) (pattern : Pattern) (start end i : ℕ) → IsOrder names order
    → IsBlock names order pattern start end → length names ≤ i → list_any (nat_eq i) (take (end - start) (drop start order)) ≡ false
block_lacks names order pattern start end i o b past = list_any_none (nat_eq i) places (λ k d within.
    let in' : get_or places k 0 < length names = block_within names order pattern start end o b k within in
    let other : i ≡ get_or places k d → ⊥ = λ same. omega (arith, in', past, same, get_or_default places k d 0 within) in
    ne_eqb i (get_or places k d) other)
  where
    places : List ℕ
    places = take (end - start) (drop start order)

-- hiding the places of the block hides what the pattern names
pub hidden_block : (names : List (List ℕ)) (order : List ℕ) (hidden : List Bool) (pattern : Pattern) (start end : ℕ) → IsOrder names order
    → IsBlock names order pattern start end → all_hidden (take (end - start) (drop start order)) hidden ≡ hidden_by pattern names hidden
hidden_block names order hidden pattern start end o b =
    same_flags (all_hidden places hidden) (hidden_by pattern names hidden) (hidden_length places hidden
    ∙ sym (hidden_by-length pattern names hidden)) (λ i within.
    let here : i < length hidden = omega (arith, hidden_length places hidden, within) in
    hidden_at places hidden i here ∙ by i here (nat_lt i (length names)) refl)
  where
    places : List ℕ
    places = take (end - start) (drop start order)

    -- Plan: a place of the line, or one past it.
    by : (i : ℕ) → i < length hidden → (t : Bool) → nat_lt i (length names) ≡ t
        → (get_or hidden i false || list_any (nat_eq i) places) ≡ get_or (hidden_by pattern names hidden) i false
    by i here true e =
        let within : i < length names = ltb-true i (length names) e in
        ap (λ t. get_or hidden i false || t) (block_has names order pattern start end i o b within)
        ∙ sym (hidden_by-at pattern names hidden i here within)
    by i here false e =
        let past : length names ≤ i = ltb-false i (length names) e in
        ap (λ t. get_or hidden i false || t) (block_lacks names order pattern start end i o b past)
        ∙ or-false (get_or hidden i false) ∙ sym (hidden_by-past pattern names hidden i past)

-- The same for the places that a pattern names.

-- the places that a pattern names are places of the line
pub named_within : (names : List (List ℕ)) (pattern : Pattern) (places : List ℕ) → AreNamed names pattern places → (k : ℕ)
    → k < length places → get_or places k 0 < length names
named_within names pattern places n k within = rw n.part (block_within names n.order pattern n.start n.end n.in_order n.block k
    (rw (← n.part) within))

-- each item of the list of the places that a pattern names is a place of the line
pub named_place : (names : List (List ℕ)) (pattern : Pattern) (places : List ℕ) → AreNamed names pattern places → (k x : ℕ)
    → k < length places → x ≡ get_or places k x → x < length names
named_place names pattern places n k x within is =
    let at : x ≡ get_or places k 0 = is ∙ get_or_default places k x 0 within in
    rw at (named_within names pattern places n k within)

-- the places that the pattern names and that count, sorted, are its hits
pub named_hits : (names : List (List ℕ)) (named found places : List ℕ) (hidden : List Bool) (pattern : Pattern)
    → AreNamed names pattern named → found ≡ filter (counts names hidden (is_broad pattern)) named → IsPermutation found places
    → IsNonDecreasing places → places ≡ hits names hidden pattern
named_hits names named found places hidden pattern n is moved up = hits_sorted names n.order found places hidden pattern n.start n.end
    n.in_order n.block (is ∙ ap (filter (counts names hidden (is_broad pattern))) n.part) moved up

-- some named place counts exactly if the pattern has a hit
pub named_any : (names : List (List ℕ)) (named : List ℕ) (hidden : List Bool) (pattern : Pattern) → AreNamed names pattern named
    → list_any (counts names hidden (is_broad pattern)) named ≡ nat_lt 0 (length (hits names hidden pattern))
named_any names named hidden pattern n = ap (list_any (counts names hidden (is_broad pattern))) n.part
    ∙ any_hit names n.order hidden pattern n.start n.end n.in_order n.block

-- hiding the named places hides what the pattern names
pub named_hidden : (names : List (List ℕ)) (named : List ℕ) (hidden : List Bool) (pattern : Pattern) → AreNamed names pattern named
    → all_hidden named hidden ≡ hidden_by pattern names hidden
named_hidden names named hidden pattern n = ap (λ places. all_hidden places hidden) n.part ∙ hidden_block names n.order hidden pattern
    n.start n.end n.in_order n.block

-- One step of a loop over places.

-- A loop over places is done.

-- at the end of the loop the places that count are complete
pub counted : (test : ℕ → Bool) (found xs : List ℕ) (i : ℕ) → length xs ≤ i → found ++ filter test (drop i xs) ≡ filter test xs
    → found ≡ filter test xs
counted test found xs i whole done = step ∙ done
  where
    step : found ≡ found ++ filter test (drop i xs)
    step = rw (drop_all i xs whole) (sym (append-nil found))

-- at the end of the loop all places are hidden
pub hide_done : (hidden whole : List Bool) (xs : List ℕ) (i : ℕ) → length xs ≤ i → all_hidden (drop i xs) hidden ≡ whole → hidden ≡ whole
hide_done hidden whole xs i past done = step ∙ done
  where
    step : hidden ≡ all_hidden (drop i xs) hidden
    step = rw (drop_all i xs past) refl
