use Rattle.drv_match.proofs.ByName.{far_names}
use Rattle.drv_match.specs.Matching.{is_named, name_at}
use Rattle.drv_match.specs.Order.{IsBlock, IsOrder}
use Rattle.drv_match.specs.Pattern.{Pattern}
use Rattle.std.proofs.Common.{◌≡◌, ◌<◌, ◌≤◌, ◌∙◌, ◌||◌, ◌==◌, Bool, false, true, List, [], ◌∷◌, Ordering, ap, arith, get_or, if◌then◌else◌}
use Rattle.std.proofs.Common.{length, nat_eq, not, refl, sym, ℕ}
use Rattle.std.proofs.Math.Bool.{and-false, or-true}
use Rattle.std.proofs.lemmas.Bool.Decides.{nat_tests}
use Rattle.std.proofs.lemmas.Cmp.{nat_eq_equiv, nat_list_cmp_total, ranked, upto}
use Rattle.std.proofs.lemmas.List.Sorted.{ranks_by}
use Rattle.std.specs.Cmp.Lexicographic.{pointwise, slice_cmp, texts_ties}
use Rattle.std.specs.List.{starts_with}
use Rattle.std.specs.List.Sorted.{IsPartitionPoint, IsPartitionedBy}
use Rattle.std.specs.Ordering.{is_eq, is_gt, is_lt, nat_cmp, ordering_reverse, ordering_then}
use Rattle.std.specs.Prelude.{nat_le}
use Rattle.std.specs.declared.cmp.Ordering.TheVariants.{Less, Equal, Greater}

-- For the look-up of a pattern (sorting.rt): in the order of names, the names that begin with the pattern's name are next to each other, so
-- two binary searches find where they begin and end (`block_found`).
-- Names: `names` is the names of the switches of a line, in order. `order` is the places of the switches, in the order of their names.
-- `name` is the name of a switch. `pattern` is a pattern of a spec text. `o` is how two names compare. `t` is the value of a test, so that
-- `by` can go by both cases. `u` is the value of a second test. `least` is the name of the pattern, with which the block's names begin. `a`
-- and `b` are names. `name_at names i` is the name at place i. `is_named pattern name` says whether the pattern names it.
-- `IsOrder names order` says that the order is by name, then by place.

-- whether a name comes before another, byte by byte
abbrev before : List ℕ → List ℕ → Bool
before name other = is_lt (slice_cmp nat_cmp name other)

-- a name that comes before one that begins with these bytes, or before the bytes, begins with them or comes before them too
prefix_down : (least a b : List ℕ) → before b a ≡ false → (before b least || starts_with nat_eq b least) ≡ true
    → (before a least || starts_with nat_eq a least) ≡ true
prefix_down [] a b up so = or-true (before a [])
prefix_down (p ∷ least) [] b up so = refl
prefix_down (p ∷ least) (x ∷ a) [] up so = absurd cc
prefix_down (p ∷ least) (x ∷ a) (y ∷ b) up so = by (nat_cmp x p) (nat_cmp y x) refl refl (prefix_down least a b)
  where
    -- Plan: by how the first bytes compare: with `p` of the prefix, and with each other.
    beyond : p < y → ⊥
    beyond above =
        let e : nat_cmp y p ≡ Greater = grind (arith, nat_tests) in
        let other : (p == y) ≡ false = grind (arith, nat_tests) in
        let clash : false ≡ true = (rw (e, other) refl) ∙ so in
        cc

    by : (u v : Ordering) → nat_cmp x p ≡ u → nat_cmp y x ≡ v → (before b a ≡ false → (before b least || starts_with nat_eq b least) ≡ true
        → (before a least || starts_with nat_eq a least) ≡ true)
        → (before (x ∷ a) (p ∷ least) || starts_with nat_eq (x ∷ a) (p ∷ least)) ≡ true
    by Less v e e' ih = rw e refl
    by u Less e e' ih = absurd (let clash : is_lt (ordering_then (nat_cmp y x) (slice_cmp nat_cmp b a)) ≡ true = rw e' refl in cc)
    by Equal Equal e e' ih =
        let one : x ≡ p = ranked x p Equal (sym e) in
        let two : y ≡ x = ranked y x Equal (sym e') in
        let three : nat_cmp y p ≡ Equal = ap (λ z. nat_cmp z p) two ∙ e in
        let same : (p == x) ≡ true = ap (λ z. p == z) one ∙ nat_eq_equiv.refl p in
        let same' : (p == y) ≡ true = ap (λ z. p == z) two ∙ same in
        let up' : before b a ≡ false = (rw e' refl) ∙ up in
        let so' : (before b least || starts_with nat_eq b least) ≡ true = (rw (three, same') refl) ∙ so in
        rw (e, same) (ih up' so')
    by Equal Greater e e' ih =
        let one : x ≡ p = ranked x p Equal (sym e) in
        let two : x < y = ranked y x Greater (sym e') in
        absurd (beyond (omega (arith, one, two)))
    by Greater Equal e e' ih =
        let one : p < x = ranked x p Greater (sym e) in
        let two : y ≡ x = ranked y x Equal (sym e') in
        absurd (beyond (omega (arith, one, two)))
    by Greater Greater e e' ih =
        let one : p < x = ranked x p Greater (sym e) in
        let two : x < y = ranked y x Greater (sym e') in
        absurd (beyond (omega (arith, one, two)))

-- a name that comes before the bytes doesn't begin with them
before_prefix : (least name : List ℕ) → before name least ≡ true → starts_with nat_eq name least ≡ false
before_prefix [] [] e = absurd cc
before_prefix [] (x ∷ name) e = absurd cc
before_prefix (p ∷ least) [] e = refl
before_prefix (p ∷ least) (x ∷ name) e = by (nat_cmp x p) refl (before_prefix least name)
  where
    -- Plan: by how the first bytes compare.
    by : (u : Ordering) → nat_cmp x p ≡ u → (before name least ≡ true → starts_with nat_eq name least ≡ false)
        → starts_with nat_eq (x ∷ name) (p ∷ least) ≡ false
    by Less is ih =
        let low : x < p = ranked x p Less (sym is) in
        let other : (p == x) ≡ false = grind (arith, nat_tests) in
        rw other refl
    by Equal is ih =
        let rest : before name least ≡ true = (rw is refl) ∙ e in
        rw (ih rest) (and-false (p == x))
    by Greater is ih = absurd (let clash : false ≡ true = (rw is refl) ∙ e in cc)

-- a name comes before these bytes, or is them, exactly if it is not greater
upto_bytes : (name least : List ℕ) → (before name least || pointwise nat_eq name least) ≡ not (is_gt (slice_cmp nat_cmp name least))
upto_bytes name least = rw (texts_ties name least) (by (slice_cmp nat_cmp name least))
  where
    by : (o : Ordering) → (is_lt o || is_eq o) ≡ not (is_gt o)
    by Less = refl
    by Equal = refl
    by Greater = refl

-- a test whose negation holds fails
opposite : (t : Bool) → not t ≡ true → t ≡ false
opposite true e = absurd cc
opposite false e = refl

-- of two names the other way round neither is greater
turned : (o : Ordering) → is_lt o ≡ false → is_gt (ordering_reverse o) ≡ false
turned Less e = absurd cc
turned Equal e = refl
turned Greater e = refl

-- what doesn't come after, is at most as great
no_more : (a b : List ℕ) → before b a ≡ false → is_gt (slice_cmp nat_cmp a b) ≡ false
no_more a b up = rw (nat_list_cmp_total.antisymm a b) (turned (slice_cmp nat_cmp b a) up)

-- a name before one that is these bytes, or before them, is such a name
exact_down : (least a b : List ℕ) → before b a ≡ false → (before b least || pointwise nat_eq b least) ≡ true
    → (before a least || pointwise nat_eq a least) ≡ true
exact_down least a b up so =
    let low : is_gt (slice_cmp nat_cmp b least) ≡ false = opposite _ (sym (upto_bytes b least) ∙ so) in
    upto_bytes a least ∙ ap not (upto nat_list_cmp_total a b least (no_more a b up) low)

-- a name that comes before these bytes is not these bytes
before_exact : (least name : List ℕ) → before name least ≡ true → pointwise nat_eq name least ≡ false
before_exact least name e = texts_ties name least ∙ by (slice_cmp nat_cmp name least) e
  where
    by : (o : Ordering) → is_lt o ≡ true → is_eq o ≡ false
    by Less e = refl
    by Equal e = absurd cc
    by Greater e = absurd cc

-- a name before one that the pattern names, or that comes before the pattern's name, is itself such a name
pub named_down : (pattern : Pattern) (a b : List ℕ) → before b a ≡ false → (before b pattern.name || is_named pattern b) ≡ true
    → (before a pattern.name || is_named pattern a) ≡ true
named_down pattern a b up so = by pattern.star so
  where
    by : (t : Bool) → (before b pattern.name || (if t then starts_with nat_eq b pattern.name else pointwise nat_eq b pattern.name)) ≡ true
        → (before a pattern.name || (if t then starts_with nat_eq a pattern.name else pointwise nat_eq a pattern.name)) ≡ true
    by true so = prefix_down pattern.name a b up so
    by false so = exact_down pattern.name a b up so

-- a name that comes before the pattern's name isn't named by it
pub before_named : (pattern : Pattern) (name : List ℕ) → before name pattern.name ≡ true → is_named pattern name ≡ false
before_named pattern name e = by pattern.star
  where
    by : (t : Bool) → (if t then starts_with nat_eq name pattern.name else pointwise nat_eq name pattern.name) ≡ false
    by true = before_prefix pattern.name name e
    by false = before_exact pattern.name name e

-- a name before one that comes before these bytes comes before them too
pub before_down : (least a b : List ℕ) → before b a ≡ false → before b least ≡ true → before a least ≡ true
before_down least a b up so = by (before a least) refl
  where
    by : (t : Bool) → before a least ≡ t → t ≡ true
    by true e = refl
    by false e = absurd (let clash : true ≡ false = sym so ∙ (ranks_by nat_list_cmp_total (λ name. name)).chain b a least up e in cc)

-- Two binary searches find the block.

-- what the first search asks of a place: whether its name comes before the pattern's
abbrev pub asks_start : List (List ℕ) → Pattern → ℕ → Bool
asks_start names pattern i = before (name_at names i) pattern.name

-- what the second asks: whether it does, or the pattern names it
abbrev pub asks_end : List (List ℕ) → Pattern → ℕ → Bool
asks_end names pattern i = before (name_at names i) pattern.name || is_named pattern (name_at names i)

-- in the order of names the places that come before the pattern's name are first
pub start_parts : (names : List (List ℕ)) (order : List ℕ) (pattern : Pattern) → IsOrder names order
    → IsPartitionedBy (asks_start names pattern) order
start_parts names order pattern o = λ i j d below within so. before_down pattern.name (name_at names (get_or order i d))
    (name_at names (get_or order j d)) (far_names names order o i j d below within) so

-- in the order of names the places that come before it or are named by the pattern are first
pub end_parts : (names : List (List ℕ)) (order : List ℕ) (pattern : Pattern) → IsOrder names order
    → IsPartitionedBy (asks_end names pattern) order
end_parts names order pattern o = λ i j d below within so. named_down pattern (name_at names (get_or order i d))
    (name_at names (get_or order j d)) (far_names names order o i j d below within) so

-- if neither of two tests holds, the second fails
neither : (t u : Bool) → (t || u) ≡ false → u ≡ false
neither true u e = absurd cc
neither false u e = e

-- if the first of two tests holds, one does
left : (t u : Bool) → t ≡ true → (t || u) ≡ true
left true u e = refl
left false u e = absurd cc

-- if one holds and the first doesn't, the second does
alone : (t u : Bool) → t ≡ false → (t || u) ≡ true → u ≡ true
alone true u e so = absurd cc
alone false u e so = so

-- between the ends of both searches are the places that the pattern names
pub block_found : (names : List (List ℕ)) (order : List ℕ) (pattern : Pattern) (start end : ℕ) → start ≤ length order → end ≤ length order
    → IsPartitionPoint (λ i. asks_start names pattern i ≡ true) (λ i. asks_start names pattern i ≡ false) order start
    → IsPartitionPoint (λ i. asks_end names pattern i ≡ true) (λ i. asks_end names pattern i ≡ false) order end
    → IsBlock names order pattern start end
block_found names order pattern start end low high first second = record {
  ascends = rises;
  within = high;
  before = λ k d from to. before_named pattern (name_at names (get_or order k d)) (first.0 k d from to);
  named = λ k d from to. alone _ _ (first.1 k d from (omega (arith, high, to))) (second.0 k d (omega arith) to);
  following = λ k d from to. neither _ _ (second.1 k d from to);
}
  where
    -- Plan: the end is not before the start (`rises`), so the names between both searches are those of the block.
    rises : start ≤ end
    rises = by (nat_le start end) refl
      where
        by : (t : Bool) → nat_le start end ≡ t → start ≤ end
        by true e = grind (arith, nat_tests)
        by false e =
            let lower : end < start = grind (arith, nat_tests) in
            let within : end < length order = omega (arith, lower, low) in
            absurd (let clash : true ≡ false = sym (left _ _ (first.0 end 0 (omega arith) lower)) ∙ second.1 end 0 (omega arith) within in
            cc)

-- if both fail, none holds
both_false : (t u : Bool) → t ≡ false → u ≡ false → (t || u) ≡ false
both_false t u e e' = rw (e, e') refl

-- where the pattern names no place at the start, it names none
pub none_found : (names : List (List ℕ)) (order : List ℕ) (pattern : Pattern) (start : ℕ) → start ≤ length order → IsOrder names order
    → IsPartitionPoint (λ i. asks_start names pattern i ≡ true) (λ i. asks_start names pattern i ≡ false) order start
    → (start < length order → (d : ℕ) → is_named pattern (name_at names (get_or order start d)) ≡ false)
    → IsBlock names order pattern start start
none_found names order pattern start low o first other = block_found names order pattern start start low low first (
  (λ k d from to. left _ _ (first.0 k d from to)),
  (λ k d from to. past k d from to (asks_end names pattern (get_or order k d)) refl),
)
  where
    -- Plan: from the start on no name begins with the pattern's (`past`), and before it none does.
    past : (k : ℕ) (d : ℕ) → start ≤ k → k < length order → (t : Bool) → asks_end names pattern (get_or order k d) ≡ t
        → asks_end names pattern (get_or order k d) ≡ false
    past k d from to false e = e
    past k d from to true e =
        let here : start < length order = omega (arith, from, to) in
        let no : asks_end names pattern (get_or order start d) ≡ false =
        both_false _ _ (first.1 start d (omega arith) here) (other here d) in
        absurd (let clash : true ≡ false = sym (end_parts names order pattern o start k d from to e) ∙ no in cc)
