use Rattle.drv_match.proofs.Tallies.{same_order, tally_permutation}
use Rattle.drv_match.specs.Matching.{name_at}
use Rattle.drv_match.specs.Order.{IsBlock, IsOrder, by_name}
use Rattle.drv_match.specs.Pattern.{Pattern}
use Rattle.std.proofs.Common.{◌≡◌, ◌<◌, ◌≤◌, ◌+◌, ◌∙◌, ◌==◌, Bool, false, true, List, Ordering, ap, arith, cond, get_or, length, nat_lt}
use Rattle.std.proofs.Common.{refl, sym, ℕ}
use Rattle.std.proofs.lemmas.Bool.Decides.{nat_tests}
use Rattle.std.proofs.lemmas.Cmp.{nat_cmp_total, nat_list_cmp_total, on_total, then_total, tied_back}
use Rattle.std.proofs.lemmas.List.FromFn.{get_or-range_with_len, length-range_with_len}
use Rattle.std.proofs.lemmas.List.Sorted.{All-permutation, Contains-permutation, IsStrictWeakOrder-by_number, ranks_by}
use Rattle.std.proofs.lemmas.List.Sorted.{sorted_far, ties_stay_sorted}
use Rattle.std.specs.Cmp.{IsStrictWeakOrder}
use Rattle.std.specs.Cmp.Lexicographic.{slice_cmp}
use Rattle.std.specs.List.{Contains, range_with_len}
use Rattle.std.specs.List.Sorted.{IsPermutation, IsSortedBy, IsStableBy, ties}
use Rattle.std.specs.Ordering.{is_lt, nat_cmp, ordering_reverse, ordering_then}
use Rattle.std.specs.declared.cmp.Ordering.TheVariants.{Less, Equal, Greater}

-- For the look-up of a pattern: the places of a line, ordered by name and then by place (`IsOrder`). A stable sort by name makes that
-- order, it has each place once, and there is only one such order.
-- Names: `names` is the names of the switches of a line, in order. `order` is the places of the switches, in the order of their names. `i`
-- is a place on the line. `j` is an index in the order. `k` is an index in a list. `o` is how two names compare. `a` and `b` are places.
-- `name_at names i` is the name at place i. `IsOrder names order` says that the order is by name, then by place. `by_name names i j`
-- compares two places, by name and then by place.

-- the name at one place comes before the name at another
abbrev pub is_before : List (List ℕ) → ℕ → ℕ → Bool
is_before names i j = is_lt (slice_cmp nat_cmp (name_at names i) (name_at names j))

-- the comparison of places by name alone is an order to sort by
pub names_rank : (names : List (List ℕ)) → IsStrictWeakOrder (is_before names)
names_rank names = ranks_by nat_list_cmp_total (name_at names)

-- the comparison of places by name, and then by place, is an order to sort by
pub places_rank : (names : List (List ℕ)) → IsStrictWeakOrder (λ i j. is_lt (by_name names i j))
places_rank names = ranks_by (then_total (on_total (name_at names) nat_list_cmp_total) nat_cmp_total) (λ i. i)

-- a comparison that ends at Equal or Greater is not Less
no_less : (t : Bool) → is_lt (cond t Equal Greater) ≡ false
no_less true = refl
no_less false = refl

-- where names don't decide, places do
by_both : (o : Ordering) (a b : ℕ) → is_lt o ≡ false → (o ≡ Equal → nat_lt a b ≡ false) → is_lt (ordering_then o (nat_cmp a b)) ≡ false
by_both Less a b up tie = up
by_both Equal a b up tie = rw (tie refl) (no_less (a == b))
by_both Greater a b up tie = refl

-- the places of a range ascend
rising : (n : ℕ) → IsSortedBy (λ i j. nat_lt i j) (range_with_len 0 n)
rising n = λ k d low high.
    let within : k + 1 < n = omega (arith, length-range_with_len 0 n) in
    rw (get_or-range_with_len 0 n (k + 1) d within, get_or-range_with_len 0 n k d (omega arith)) (grind (arith, nat_tests))

-- places with equal names are tied, so a stable sort keeps their order
tied : (names : List (List ℕ)) (i j : ℕ) → slice_cmp nat_cmp (name_at names j) (name_at names i) ≡ Equal → ties (is_before names) i j ≡ true
tied names i j equal = rw (equal, tied_back nat_list_cmp_total (name_at names j) (name_at names i) equal) refl

-- a stable sort by name of all places gives the order by name and place
pub in_order : (names : List (List ℕ)) (places order : List ℕ) → places ≡ range_with_len 0 (length names) → IsPermutation places order
    → IsSortedBy (is_before names) order → IsStableBy (is_before names) places order → IsOrder names order
in_order names places order all moved up kept = record {
  places = rw (← all) moved;
  sorted = λ k d low high. by_both (slice_cmp nat_cmp (name_at names (get_or order (k + 1) d)) (name_at names (get_or order k d)))
      (get_or order (k + 1) d) (get_or order k d) (up k d low high) (λ equal. ties_stay_sorted (λ i j. nat_lt i j) (is_before names)
      (IsStrictWeakOrder-by_number (λ i. i)) (names_rank names) places order (rw all (rising (length names))) kept k d high
      (tied names (get_or order k d) (get_or order (k + 1) d) equal));
}

-- Places that are far apart in the order.

-- what is further on in the order is not less
far : (names : List (List ℕ)) (order : List ℕ) → IsOrder names order → (j k d : ℕ) → j ≤ k → k < length order
    → is_lt (by_name names (get_or order k d) (get_or order j d)) ≡ false
far names order o j k d below within = sorted_far (λ i j. is_lt (by_name names i j)) (places_rank names) order o.sorted j k d below within

-- an order by two parts is one by the first
first_part : (o p : Ordering) → is_lt (ordering_then o p) ≡ false → is_lt o ≡ false
first_part Less p e = e
first_part Equal p e = refl
first_part Greater p e = refl

-- where the first parts are equal it is one by the second
second_part : (o p : Ordering) → o ≡ Equal → is_lt (ordering_then o p) ≡ false → is_lt p ≡ false
second_part Less p equal e = absurd cc
second_part Equal p equal e = e
second_part Greater p equal e = absurd cc

-- no later name of the order comes before an earlier one, however far apart they are
pub far_names : (names : List (List ℕ)) (order : List ℕ) → IsOrder names order → (j k d : ℕ) → j ≤ k → k < length order
    → is_before names (get_or order k d) (get_or order j d) ≡ false
far_names names order o j k d below within = first_part _ _ (far names order o j k d below within)

-- a number that is not less is at least as great
at_most : (a b : ℕ) → is_lt (nat_cmp b a) ≡ false → a ≤ b
at_most a b e = grind (arith, nat_tests)

-- places with the same name ascend in the order, however far apart they are
pub far_places : (names : List (List ℕ)) (order : List ℕ) → IsOrder names order → (j k d : ℕ) → j ≤ k → k < length order
    → slice_cmp nat_cmp (name_at names (get_or order k d)) (name_at names (get_or order j d)) ≡ Equal → get_or order j d ≤ get_or order k d
far_places names order o j k d below within equal = at_most _ _ (second_part _ _ equal (far names order o j k d below within))

-- The order has each place once.

-- each item of the order is a place of the line
pub in_range : (names : List (List ℕ)) (order : List ℕ) → IsOrder names order → (k d : ℕ) → k < length order
    → get_or order k d < length names
in_range names order o k d within = All-permutation (λ i. i < length names) (range_with_len 0 (length names)) order o.places
    below k d within
  where
    below : (k d : ℕ) → k < length (range_with_len 0 (length names)) → get_or (range_with_len 0 (length names)) k d < length names
    below k d h =
        let in' : k < length names = omega (arith, length-range_with_len 0 (length names)) in
        rw (get_or-range_with_len 0 (length names) k d in') (omega (arith, in'))

-- each place of the line is in the order
pub has_place : (names : List (List ℕ)) (order : List ℕ) → IsOrder names order → (i : ℕ) → i < length names → Contains order i
has_place names order o i within = Contains-permutation (range_with_len 0 (length names)) order i o.places here
  where
    here : Contains (range_with_len 0 (length names)) i
    here = (
      i,
      omega (arith, length-range_with_len 0 (length names)),
      (let same : 0 + i ≡ i = omega arith in get_or-range_with_len 0 (length names) i i within ∙ same),
    )

-- There is only one such order.

-- places of which neither comes before the other, by name and by place, are the same
levels : (o : Ordering) (a b : ℕ) → is_lt (ordering_then o (nat_cmp a b)) ≡ false → is_lt (ordering_then (ordering_reverse o) (nat_cmp b a))
    ≡ false → a ≡ b
levels Less a b e e' = absurd cc
levels Equal a b e e' = grind (arith, nat_tests)
levels Greater a b e e' = absurd cc

-- two places that are equal in the order are the same place
one_place : (names : List (List ℕ)) (i j : ℕ) → is_lt (by_name names i j) ≡ false → is_lt (by_name names j i) ≡ false → i ≡ j
one_place names i j e e' = levels (slice_cmp nat_cmp (name_at names i) (name_at names j)) i j e
    (ap (λ o. is_lt (ordering_then o (nat_cmp j i))) (sym (nat_list_cmp_total.antisymm (name_at names j) (name_at names i))) ∙ e')

-- two orders of one line by name, then by place, are the same
pub only_order : (names : List (List ℕ)) (one other : List ℕ) → IsOrder names one → IsOrder names other → one ≡ other
only_order names one other o o' = same_order (λ i j. is_lt (by_name names i j)) (one_place names) one other
    (λ i j below within. far names one o i j 0 below within) (λ i j below within. far names other o' i j 0 below within)
    (λ n. sym (tally_permutation n (range_with_len 0 (length names)) one o.places) ∙ tally_permutation n (range_with_len 0 (length names))
    other o'.places)

-- a block of one order of the line is a block of any other
pub block_of_any : (names inside : List (List ℕ)) (order other items : List ℕ) (pattern : Pattern) (start end : ℕ) → inside ≡ names
    → other ≡ items → IsOrder inside items → IsOrder names order → IsBlock inside other pattern start end
    → IsBlock names order pattern start end
block_of_any names inside order other items pattern start end e f o o' b =
    let same : order ≡ other = only_order names order other o' (rw (f, ← e) o) in
    rw (same, ← e) b
