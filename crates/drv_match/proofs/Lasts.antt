use Rattle.drv_match.proofs.ByName.{far_names, far_places, has_place, in_range}
use Rattle.drv_match.proofs.Cancelling.{other_cancels}
use Rattle.drv_match.specs.Code.Indexed.{IsLast, IsLiveness, positive}
use Rattle.drv_match.specs.Matching.{cancels, has_negative, is_level, is_live, name_at, negative}
use Rattle.drv_match.specs.Order.{IsOrder}
use Rattle.std.proofs.Common.{◌≡◌, ◌<◌, ◌≤◌, ◌+◌, ◌-◌, ◌∙◌, ◌==◌, ◌||◌, Bool, false, true, List, [], None, Ordering, Some, ap, arith, drop}
use Rattle.std.proofs.Common.{get_or, if◌then◌else◌, length, max, nat_eq, nat_le, not, refl, set, sym, ℕ}
use Rattle.std.proofs.Math.Bool.{or-false}
use Rattle.std.proofs.lemmas.Bool.{eqb-true}
use Rattle.std.proofs.lemmas.Bool.Decides.{nat_tests}
use Rattle.std.proofs.lemmas.Cmp.{alike_right, nat_eq_equiv, nat_list_cmp_total, nat_list_eq_equiv, upto}
use Rattle.std.proofs.lemmas.Grind.{get_or_default_zero}
use Rattle.std.proofs.lemmas.List.{get_or-drop, get_or-set_other, get_or-set_same, length-drop}
use Rattle.std.proofs.lemmas.List.Elements.{All-from_get_or}
use Rattle.std.proofs.lemmas.List.Folds.{list_any_at, list_any_none}
use Rattle.std.proofs.lemmas.Map.Lookups.{exact_bytes}
use Rattle.std.specs.Cmp.Lexicographic.{pointwise, slice_cmp, texts_ties}
use Rattle.std.specs.List.{list_any}
use Rattle.std.specs.List.Sorted.{IsPartitionPoint, IsPartitionedBy}
use Rattle.std.specs.Ordering.{is_eq, is_gt, is_le, is_lt, nat_cmp, ordering_reverse}
use Rattle.std.specs.declared.cmp.Ordering.TheVariants.{Less, Equal, Greater}

-- For liveness (liveness.rt): a switch is live if no later one cancels it, so the code looks for the last name that cancels it (`IsLast`).
-- For a level that is the last level. Else it is the last place of the negative or the positive form, found in the order of names.
-- Names: `names` is the names of the switches of a line, in order. `order` is the places of the switches, in the order of their names.
-- `name` is the name of a switch. `place` is the place of a switch on the line. `i` is a place on the line. `j` is an index in the order.
-- `k` is an index in a list. `end` is where a block ends in the order. `o` is how two names compare. `t` is the value of a test, so that
-- `by` can go by both cases. `u` is the value of a second test. `f` and `g` are tests of names. `first` is the place of the last name that
-- cancels the one at hand. `name_at names i` is the name at place i. `IsLast test names place` says that the last name that passes is at
-- this place. `cancels later earlier` says that a later switch cancels an earlier one. `positive` is a name without its `no-`.
-- `is_live names i` says that no later switch cancels the one at place i. `is_level` says that a name is a level of -O.
-- `IsOrder names order` says that the order is by name, then by place.

-- two equal tests have the same last name
pub last_same : (f g : List ℕ → Bool) (names : List (List ℕ)) (place : ℕ) → ((name : List ℕ) → f name ≡ g name) → IsLast g names place
    → IsLast f names place
last_same f g names place same last = record {
  none_after = λ i following within. same (name_at names i) ∙ last.none_after i following within;
  within = last.within;
  passes = λ some. same (name_at names place) ∙ last.passes some;
}

-- a test that no name passes has no last name, which the code shows as place 0
pub no_last : (f : List ℕ → Bool) (names : List (List ℕ)) → ((name : List ℕ) → f name ≡ false) → IsLast f names 0
no_last f names none = record {
  none_after = λ i following within. none (name_at names i);
  within = λ some. absurd (omega (arith, some));
  passes = λ some. absurd (omega (arith, some));
}

-- if two tests fail, none holds
both_no : (t u : Bool) → t ≡ false → u ≡ false → (t || u) ≡ false
both_no true u e e' = absurd cc
both_no false u e e' = e'

-- if the first of two tests holds, one does
or_left : (t u : Bool) → t ≡ true → (t || u) ≡ true
or_left true u e = refl
or_left false u e = absurd cc

-- if the second holds, one does
or_right : (t u : Bool) → u ≡ true → (t || u) ≡ true
or_right true u e = refl
or_right false u e = e

-- the last name that passes one of two tests is the later of their last ones
pub last_either : (f g : List ℕ → Bool) (names : List (List ℕ)) (one other place : ℕ) → place ≡ max one other → IsLast f names one
    → IsLast g names other → IsLast (λ name. f name || g name) names place
last_either f g names one other place is last last' = by (nat_le one other) refl
  where
    -- Plan: by which of the two last places is the later one.
    by : (t : Bool) → nat_le one other ≡ t → IsLast (λ name. f name || g name) names place
    by true e =
        let low : one ≤ other = grind (arith, nat_tests) in
        let here : place ≡ other = omega (arith, is, low) in
        rw here (record {
          none_after = λ i following within. both_no _ _ (last.none_after i (omega (arith, following, low)) within)
              (last'.none_after i following within);
          within = last'.within;
          passes = λ some. or_right _ _ (last'.passes some);
        })
    by false e =
        let low : other < one = grind (arith, nat_tests) in
        let here : place ≡ one = omega (arith, is, low) in
        rw here (record {
          none_after = λ i following within. both_no _ _ (last.none_after i following within)
              (last'.none_after i (omega (arith, following, low)) within);
          within = last.within;
          passes = λ some. or_left _ _ (last.passes some);
        })

-- The last name that cancels a name.

-- a name is cancelled last by its negative form, if it isn't one itself
pub negative_last : (names : List (List ℕ)) (name form : List ℕ) (place : ℕ) → is_level name ≡ false → has_negative name ≡ true
    → positive name ≡ None → form ≡ negative name → IsLast (pointwise nat_eq form) names place
    → IsLast (λ later. cancels later name) names place
negative_last names name form place e h alone is last = last_same (λ later. cancels later name) (pointwise nat_eq form) names place
    (λ later. other_cancels later name e h ∙ rw (alone, ← is) (or-false (pointwise nat_eq form later))) last

-- a name that has a negative and a positive form is cancelled last by the later of these
pub both_last : (names : List (List ℕ)) (name form form' : List ℕ) (one other place : ℕ) → is_level name ≡ false → has_negative name ≡ true
    → positive name ≡ Some form' → form ≡ negative name → IsLast (pointwise nat_eq form) names one
    → IsLast (pointwise nat_eq form') names other → place ≡ max one other → IsLast (λ later. cancels later name) names place
both_last names name form form' one other place e h found is last last' greatest = last_same (λ later. cancels later name)
    (λ later. pointwise nat_eq form later || pointwise nat_eq form' later) names place (λ later. other_cancels later name e h
    ∙ rw (found, ← is) refl) (last_either (pointwise nat_eq form) (pointwise nat_eq form') names one other place greatest last last')

-- A switch is live if its place is not before the last switch that cancels it.

-- a switch is live if its place is not before the last one that cancels it
pub live_from : (names : List (List ℕ)) (place first : ℕ) → place < length names
    → IsLast (λ later. cancels later (name_at names place)) names first → nat_le first place ≡ is_live names place
live_from names place first within last = by (nat_le first place) refl
  where
    -- Plan: by whether the place is at or after the last one that cancels it.
    later : List (List ℕ)
    later = drop (place + 1) names

    by : (t : Bool) → nat_le first place ≡ t → t ≡ not (list_any (λ other. cancels other (name_at names place)) (drop (place + 1) names))
    by true e =
        let low : first ≤ place = grind (arith, nat_tests) in
        rw (list_any_none (λ other. cancels other (name_at names place)) (drop (place + 1) names)
        (All-from_get_or (λ other. cancels other (name_at names place) ≡ false) (drop (place + 1) names) [] (λ i inside.
        let in' : place + 1 + i < length names = omega (arith, length-drop (place + 1) names, inside) in
        rw (get_or-drop (place + 1) names i []) (last.none_after (place + 1 + i) (omega (arith, low)) in')))) refl
    by false e =
        let high : place < first = grind (arith, nat_tests) in
        let some : 0 < first = omega (arith, high) in
        let in' : first < length names = last.within some in
        let back : place + 1 + (first - (place + 1)) ≡ first = omega (arith, high) in
        let here : cancels (get_or (drop (place + 1) names) (first - (place + 1)) []) (name_at names place) ≡ true =
        rw (get_or-drop (place + 1) names (first - (place + 1)) [], back) (last.passes some) in
        rw (list_any_at (λ other. cancels other (name_at names place)) (drop (place + 1) names) (first - (place + 1)) []
        (omega (arith, length-drop (place + 1) names, in', high)) here) refl

-- The last place of a name, looked up in the order.

-- whether the name at a place is this one or comes before it
abbrev pub is_upto : List (List ℕ) → List ℕ → ℕ → Bool
is_upto names name i = is_le (slice_cmp nat_cmp (name_at names i) name)

-- what is at most is not greater
not_greater : (o : Ordering) → is_le o ≡ true → is_gt o ≡ false
not_greater Less e = refl
not_greater Equal e = refl
not_greater Greater e = absurd cc

-- what is not greater is at most
at_most : (o : Ordering) → is_gt o ≡ false → is_le o ≡ true
at_most Less e = refl
at_most Equal e = refl
at_most Greater e = absurd cc

-- the other way round, what is not less is not greater
turned : (o : Ordering) → is_lt o ≡ false → is_gt (ordering_reverse o) ≡ false
turned Less e = absurd cc
turned Equal e = refl
turned Greater e = refl

-- an earlier name of the order is at most a later one
earlier : (names : List (List ℕ)) (order : List ℕ) → IsOrder names order → (j k d : ℕ) → j ≤ k → k < length order
    → is_gt (slice_cmp nat_cmp (name_at names (get_or order j d)) (name_at names (get_or order k d))) ≡ false
earlier names order o j k d below within = ap is_gt (nat_list_cmp_total.antisymm (name_at names (get_or order j d))
    (name_at names (get_or order k d))) ∙ turned _ (far_names names order o j k d below within)

-- in the order of names the places up to a name come first
pub upto_parts : (names : List (List ℕ)) (order : List ℕ) (name : List ℕ) → IsOrder names order → IsPartitionedBy (is_upto names name) order
upto_parts names order name o = λ i j d below within so. at_most _ (upto nat_list_cmp_total (name_at names (get_or order i d))
    (name_at names (get_or order j d)) name (earlier names order o i j d below within) (not_greater _ so))

-- what is equal is at most
equal_upto : (o : Ordering) → is_eq o ≡ true → is_le o ≡ false → ⊥
equal_upto Less e e' = absurd cc
equal_upto Equal e e' = absurd cc
equal_upto Greater e e' = absurd cc

-- the answer of a comparison by the test for equality
is_equal : (o : Ordering) → is_eq o ≡ true → o ≡ Equal
is_equal Less e = absurd cc
is_equal Equal e = refl
is_equal Greater e = absurd cc

-- each place of this name comes before the end in the order
below_end : (names : List (List ℕ)) (order : List ℕ) (name : List ℕ) (end k : ℕ) → IsPartitionPoint (λ i. is_upto names name i ≡ true)
    (λ i. is_upto names name i ≡ false) order end → k < length order → pointwise nat_eq name (name_at names (get_or order k 0))
    ≡ true → k < end
below_end names order name end k point within same = by (nat_le end k) refl
  where
    -- Plan: by whether the place is before the end; if not, its name would come after this one.
    turned_same : is_eq (slice_cmp nat_cmp (name_at names (get_or order k 0)) name) ≡ true
    turned_same = sym (texts_ties (name_at names (get_or order k 0)) name) ∙ nat_list_eq_equiv.symm (name_at names (get_or order k 0)) name
        ∙ same

    by : (t : Bool) → nat_le end k ≡ t → k < end
    by true e =
        let from : end ≤ k = grind (arith, nat_tests) in
        absurd (equal_upto _ turned_same (point.1 k 0 from within))
    by false e = grind (arith, nat_tests)

-- if the name is not before the end, no switch has it
pub named_none : (names : List (List ℕ)) (order : List ℕ) (name : List ℕ) (end : ℕ) → IsOrder names order
    → IsPartitionPoint (λ i. is_upto names name i ≡ true) (λ i. is_upto names name i ≡ false) order end → end ≡ 0
    → IsLast (pointwise nat_eq name) names 0
named_none names order name end o point is = record {
  none_after = λ i following within. by i within (pointwise nat_eq name (name_at names i)) refl;
  within = λ some. absurd (omega (arith, some));
  passes = λ some. absurd (omega (arith, some));
}
  where
    -- Plan: by whether the switch at a place has the name: then it would be before the end of the order.
    by : (i : ℕ) → i < length names → (t : Bool) → pointwise nat_eq name (name_at names i) ≡ t → t ≡ false
    by i within false e = refl
    by i within true e =
        let found = has_place names order o i within in
        let at : get_or order found.0 0 ≡ i = grind (arith, get_or_default_zero order found.0 i found.1, found.2) in
        let low : found.0 < end = below_end names order name end found.0 point found.1 (rw at e) in
        absurd (omega (arith, low, is))

-- the entry before the end is the last place of the name, or no switch has the name
pub named_last : (names : List (List ℕ)) (order : List ℕ) (name : List ℕ) (end place : ℕ) → IsOrder names order → end ≤ length order
    → IsPartitionPoint (λ i. is_upto names name i ≡ true) (λ i. is_upto names name i ≡ false) order end → 0 < end
    → place ≡ get_or order (end - 1) 0
    → IsLast (pointwise nat_eq name) names (if pointwise nat_eq (name_at names place) name then place else 0)
named_last names order name end place o high point some is = by (pointwise nat_eq (name_at names place) name) refl
  where
    -- Plan: by whether the place has the name. The places with the name are in order, so none follows the place (`upper`).
    -- a place of this name is at most the place found, which has the name too
    upper : (i : ℕ) → i < length names → pointwise nat_eq name (name_at names i) ≡ true
        → (pointwise nat_eq (name_at names place) name ≡ true) × (i ≤ place)
    upper i within same =
        let found = has_place names order o i within in
        let at : get_or order found.0 0 ≡ i = grind (arith, get_or_default_zero order found.0 i found.1, found.2) in
        let low : found.0 < end = below_end names order name end found.0 point found.1 (rw at same) in
        let last : end - 1 < length order = omega (arith, some, high) in
        let before : found.0 ≤ end - 1 = omega (arith, low) in
        let upto_name : is_upto names name (get_or order (end - 1) 0) ≡ true = point.0 (end - 1) 0 (omega arith) (omega (arith, some)) in
        let this_name : slice_cmp nat_cmp (name_at names i) name ≡ Equal =
        is_equal _ (sym (texts_ties (name_at names i) name) ∙ nat_list_eq_equiv.symm (name_at names i) name ∙ same) in
        let down : is_lt (slice_cmp nat_cmp (name_at names (get_or order (end - 1) 0)) (name_at names i)) ≡ false =
        rw (← at) (far_names names order o found.0 (end - 1) 0 before last) in
        let level : slice_cmp nat_cmp (name_at names (get_or order (end - 1) 0)) name ≡ Equal =
        squeezed _ (ap is_lt (sym (alike_right nat_list_cmp_total (name_at names i) name
        (name_at names (get_or order (end - 1) 0)) this_name)) ∙ down) upto_name in
        let alike : slice_cmp nat_cmp (name_at names (get_or order (end - 1) 0)) (name_at names i) ≡ Equal =
        alike_right nat_list_cmp_total (name_at names i) name (name_at names (get_or order (end - 1) 0)) this_name ∙ level in
        let places : get_or order found.0 0 ≤ get_or order (end - 1) 0 =
        far_places names order o found.0 (end - 1) 0 before last (rw at alike) in
        (rw is (texts_ties (name_at names (get_or order (end - 1) 0)) name ∙ ap is_eq level), omega (arith, is, at, places))
      where
        -- an order that is not less, but at most equal, is equal
        squeezed : (p : Ordering) → is_lt p ≡ false → is_le p ≡ true → p ≡ Equal
        squeezed Less e e' = absurd cc
        squeezed Equal e e' = refl
        squeezed Greater e e' = absurd cc

    by : (t : Bool) → pointwise nat_eq (name_at names place) name ≡ t → IsLast (pointwise nat_eq name) names (if t then place else 0)
    by true e = record {
      none_after = λ i following within. following_it i following within (pointwise nat_eq name (name_at names i)) refl;
      within = λ positive. rw is (in_range names order o (end - 1) 0 (omega (arith, some, high)));
      passes = λ positive. nat_list_eq_equiv.symm name (name_at names place) ∙ e;
    }
      where
        -- no switch after the place has this name
        following_it : (i : ℕ) → place < i → i < length names → (u : Bool) → pointwise nat_eq name (name_at names i) ≡ u → u ≡ false
        following_it i following within false e' = refl
        following_it i following within true e' = absurd (omega (arith, following, (upper i within e').1))
    by false e = record {
      none_after = λ i following within. nowhere i within (pointwise nat_eq name (name_at names i)) refl;
      within = λ positive. absurd (omega (arith, positive));
      passes = λ positive. absurd (omega (arith, positive));
    }
      where
        nowhere : (i : ℕ) → i < length names → (u : Bool) → pointwise nat_eq name (name_at names i) ≡ u → u ≡ false
        nowhere i within false e' = refl
        nowhere i within true e' = absurd (let clash : true ≡ false = sym (upper i within e').0 ∙ e in cc)

-- All flags, one entry of the order after the other.

-- two lists of bytes that compare as equal are the same
pub same_bytes : (xs ys : List ℕ) → pointwise nat_eq xs ys ≡ true → xs ≡ ys
same_bytes xs ys e = exact_bytes xs ys (is_equal _ (sym (texts_ties xs ys) ∙ e))

-- a name that is that of the entry before is cancelled last by the same one
pub known_again : (names : List (List ℕ)) (before name : List ℕ) (first place : ℕ) → IsLast (λ later. cancels later before) names first
    → pointwise nat_eq name before ≡ true → name ≡ name_at names place → IsLast (λ later. cancels later (name_at names place)) names first
known_again names before name first place last same at =
    let one : before ≡ name_at names place = sym (same_bytes name before same) ∙ at in
    rw (← one) last

-- one step of the loop over the order: the flag of its next place is set right
pub flags_next : (names : List (List ℕ)) (order : List ℕ) (flags after : List Bool) (k first : ℕ) → length flags ≡ length names
    → get_or order k 0 < length names → ((j : ℕ) → j < k → get_or flags (get_or order j 0) false ≡ is_live names (get_or order j 0))
    → IsLast (λ later. cancels later (name_at names (get_or order k 0))) names first
    → after ≡ set flags (get_or order k 0) (nat_le first (get_or order k 0)) → (j : ℕ) → j < k + 1
    → get_or after (get_or order j 0) false ≡ is_live names (get_or order j 0)
flags_next names order flags after k first same within told last is j below = rw is (by (get_or order j 0 == get_or order k 0)
    (nat_eq j k) refl refl)
  where
    -- Plan: by whether a later place of the order is the one whose flag is set.
    here : nat_le first (get_or order k 0) ≡ is_live names (get_or order k 0)
    here = live_from names (get_or order k 0) first within last

    by : (t u : Bool) → (get_or order j 0 == get_or order k 0) ≡ t → nat_eq j k ≡ u
        → get_or (set flags (get_or order k 0) (nat_le first (get_or order k 0))) (get_or order j 0) false ≡ is_live names
        (get_or order j 0)
    by true u e e' =
        let place : get_or order j 0 ≡ get_or order k 0 = eqb-true _ _ e in
        rw (place, get_or-set_same flags (get_or order k 0) (nat_le first (get_or order k 0)) false (rw same within)) here
    by false true e e' = absurd
        (let one : j ≡ k = eqb-true j k e' in
        let clash : true ≡ false = sym (nat_eq_equiv.refl (get_or order j 0))
        ∙ ap (λ m. get_or order j 0 == get_or order m 0) one ∙ e in cc)
    by false false e e' =
        let lower : j < k = grind (arith, nat_tests) in
        rw (get_or-set_other flags (get_or order k 0) (get_or order j 0) (nat_le first (get_or order k 0)) false
        (λ place. absurd (let clash : true ≡ false = sym (nat_eq_equiv.refl (get_or order j 0)) ∙ ap (λ m. get_or order j 0 == m) place
        ∙ e in cc))) (told j lower)

-- at its end all flags are right
pub flags_all : (names : List (List ℕ)) (order : List ℕ) (flags : List Bool) (k : ℕ) → IsOrder names order → length flags ≡ length names
    → length order ≤ k → ((j : ℕ) → j < k → get_or flags (get_or order j 0) false ≡ is_live names (get_or order j 0))
    → IsLiveness names flags
flags_all names order flags k o same whole told = record {
  as_many = same;
  at = λ i within.
      let found = has_place names order o i within in
      let place : get_or order found.0 0 ≡ i = grind (arith, get_or_default_zero order found.0 i found.1, found.2) in
      rw (← place) (told found.0 (omega (arith, whole, found.1)));
}

-- the one of two that a test chose

-- a choice by a test that is true is the place
pub chosen : (test : List ℕ → Bool) (names : List (List ℕ)) (place : ℕ) (t : Bool) → t ≡ true → IsLast test names (if t then place else 0)
    → IsLast test names place
chosen test names place true e last = last
chosen test names place false e last = absurd cc

-- a choice by a test that is false is 0: no name passes
pub passed : (test : List ℕ → Bool) (names : List (List ℕ)) (place : ℕ) (t : Bool) → t ≡ false → IsLast test names (if t then place else 0)
    → IsLast test names 0
passed test names place true e last = absurd cc
passed test names place false e last = last

-- a value whose `not` is false is true
pub unturned : (t : Bool) → not t ≡ false → t ≡ true
unturned true e = refl
unturned false e = absurd cc
