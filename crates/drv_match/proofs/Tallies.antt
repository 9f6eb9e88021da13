use Rattle.std.proofs.Common.{◌≡◌, ◌<◌, ◌≤◌, ◌+◌, ◌∙◌, ◌==◌, Bool, false, true, List, [], ◌∷◌, ap, arith, filter, get_or, if◌then◌else◌}
use Rattle.std.proofs.Common.{length, nat_lt, refl, suc, sym, zero, ℕ}
use Rattle.std.proofs.lemmas.Bool.{eqb-true}
use Rattle.std.proofs.lemmas.Bool.Decides.{nat_tests}
use Rattle.std.proofs.lemmas.Cmp.{nat_eq_equiv}
use Rattle.std.proofs.lemmas.List.Sorted.{sum_by-IsPermutation}
use Rattle.std.proofs.lemmas.List.Sums.{sum_by-cons}
use Rattle.std.specs.List.{sum_by}
use Rattle.std.specs.List.Sorted.{IsNonDecreasing, IsPermutation}

-- For the order of names: two ordered lists with the same numbers, equally often, are the same list. So any two sorts of the places agree
-- (`only_order`).
-- Names: `i` is a place on the line. `xs` is numbers. `t` is the value of a test, so that `by` can go by both cases. `n` is the number that
-- is counted. `ys` is numbers too. `x` is the first of them. `lt` is the order.

-- 1 if the test passes, else 0
abbrev one_if : Bool → ℕ
one_if true = 1
one_if false = 0

-- how often a list has a number
abbrev pub tally : ℕ → List ℕ → ℕ
tally n [] = 0
tally n (x ∷ xs) = one_if (n == x) + tally n xs

-- a tally is a sum over the list
as_sum : (n : ℕ) (xs : List ℕ) → tally n xs ≡ sum_by (λ x. one_if (n == x)) xs
as_sum n [] = refl
as_sum n (x ∷ xs) = ap (λ t. one_if (n == x) + t) (as_sum n xs) ∙ sym (sum_by-cons (λ x. one_if (n == x)) x xs)

-- a permutation has each number equally often
pub tally_permutation : (n : ℕ) (xs ys : List ℕ) → IsPermutation xs ys → tally n xs ≡ tally n ys
tally_permutation n xs ys moved = as_sum n xs ∙ sym (sum_by-IsPermutation (λ x. one_if (n == x)) xs ys moved) ∙ sym (as_sum n ys)

-- a filter keeps the numbers that pass as often as they were there
pub tally_filter : (test : ℕ → Bool) (n : ℕ) (xs : List ℕ) → tally n (filter test xs) ≡ (if test n then tally n xs else 0)
tally_filter test n [] = by (test n)
  where
    by : (t : Bool) → zero ≡ (if t then zero else zero)
    by true = refl
    by false = refl
tally_filter test n (x ∷ xs) = by (test x) (n == x) refl refl (tally_filter test n xs)
  where
    -- Plan: by whether the first number passes the test, and whether it is the one that is counted.
    kept : (t : Bool) (here before rest : ℕ) → t ≡ true → before ≡ (if t then rest else 0) → here + before ≡ (if t then here + rest else 0)
    kept true here before rest is e = ap (λ m. here + m) e
    kept false here before rest is e = absurd cc

    same : (t u : Bool) (before rest : ℕ) → before ≡ (if t then rest else 0) → (t ≡ false → u ≡ true → zero ≡ suc zero)
        → one_if u + before ≡ (if t then one_if u + rest else 0)
    same true u before rest e clash = ap (λ m. one_if u + m) e
    same false true before rest e clash = absurd (omega (arith, clash refl refl))
    same false false before rest e clash = omega (arith, e)

    by : (t u : Bool) → test x ≡ t → (n == x) ≡ u → tally n (filter test xs) ≡ (if test n then tally n xs else 0)
        → tally n (filter test (x ∷ xs)) ≡ (if test n then tally n (x ∷ xs) else 0)
    by true true e is ih = let at : n ≡ x = eqb-true n x is in rw (e, is) (kept (test n) 1 _ _ (ap test at ∙ e) ih)
    by true false e is ih = rw (e, is) (same (test n) false _ _ ih (λ a b. absurd cc))
    by false true e is ih =
        let at : n ≡ x = eqb-true n x is in
        let gone : test n ≡ false = ap test at ∙ e in
        rw (e, gone) (ih ∙ (rw gone refl))
    by false false e is ih = let rest : 0 + tally n xs ≡ tally n xs = omega arith in rw (e, is, rest) ih

-- a number of a list has a place there
placed : (n : ℕ) (xs : List ℕ) → 0 < tally n xs → (i : ℕ) × (i < length xs) × (get_or xs i 0 ≡ n)
placed n [] some = absurd (omega arith)
placed n (x ∷ xs) some = by (n == x) refl some (placed n xs)
  where
    by : (t : Bool) → (n == x) ≡ t → 0 < one_if t + tally n xs → (0 < tally n xs → (i : ℕ) × (i < length xs) × (get_or xs i 0 ≡ n))
        → (i : ℕ) × (i < length (x ∷ xs)) × (get_or (x ∷ xs) i 0 ≡ n)
    by true is some rest = (0, omega arith, sym (eqb-true n x is))
    by false is some rest = let r = rest (omega (arith, some)) in (suc r.0, omega (arith, r.1), r.2)

-- a list has its first number
heads : (x : ℕ) (xs : List ℕ) → 0 < tally x (x ∷ xs)
heads x xs = rw (nat_eq_equiv.refl x) (omega arith)

-- no number comes before an earlier one
abbrev pub Ascends : (ℕ → ℕ → Bool) → List ℕ → Type 0
Ascends lt xs = (i j : ℕ) → i ≤ j → j < length xs → lt (get_or xs j 0) (get_or xs i 0) ≡ false

-- no number of the list comes before the first
first_least : (lt : ℕ → ℕ → Bool) (n x : ℕ) (xs : List ℕ) → Ascends lt (x ∷ xs) → 0 < tally n (x ∷ xs) → lt n x ≡ false
first_least lt n x xs up some = let r = placed n (x ∷ xs) some in ap (λ z. lt z x) (sym r.2) ∙ up 0 r.0 (omega arith) r.1

-- what is left of an ordered list is ordered
later : (lt : ℕ → ℕ → Bool) (x : ℕ) (xs : List ℕ) → Ascends lt (x ∷ xs) → Ascends lt xs
later lt x xs up = λ i j below within. up (suc i) (suc j) (omega (arith, below)) (omega (arith, within))

-- two ordered lists with equal tallies are the same, where numbers of which none comes before the other are equal
pub same_order : (lt : ℕ → ℕ → Bool) → ((x y : ℕ) → lt x y ≡ false → lt y x ≡ false → x ≡ y) → (xs ys : List ℕ) → Ascends lt xs
    → Ascends lt ys → ((n : ℕ) → tally n xs ≡ tally n ys) → xs ≡ ys
same_order lt one [] [] up up' same = refl
same_order lt one [] (y ∷ ys) up up' same = absurd (omega (arith, same y, heads y ys))
same_order lt one (x ∷ xs) [] up up' same = absurd (omega (arith, same x, heads x xs))
same_order lt one (x ∷ xs) (y ∷ ys) up up' same =
    let low : lt y x ≡ false = first_least lt y x xs up (omega (arith, same y, heads y ys)) in
    let high : lt x y ≡ false = first_least lt x y ys up' (omega (arith, same x, heads x xs)) in
    let head : x ≡ y = one x y high low in
    let rest : xs ≡ ys = same_order lt one xs ys (later lt x xs up) (later lt y ys up')
    (λ n. cancelled n (one_if (n == x)) (one_if (n == y)) (ap (λ z. one_if (n == z)) head) (same n)) in
    ap (λ z. z ∷ xs) head ∙ ap (λ zs. y ∷ zs) rest
  where
    cancelled : (n a b : ℕ) → a ≡ b → a + tally n xs ≡ b + tally n ys → tally n xs ≡ tally n ys
    cancelled n a b e both = omega (arith, e, both)

-- two lists that don't decrease, with equal tallies, are the same
pub same_rising : (xs ys : List ℕ) → IsNonDecreasing xs → IsNonDecreasing ys → ((n : ℕ) → tally n xs ≡ tally n ys) → xs ≡ ys
same_rising xs ys up up' same = same_order (λ x y. nat_lt x y) level xs ys (ascends xs up) (ascends ys up') same
  where
    -- Plan: numbers of which neither is less are equal (`level`), and a list that doesn't decrease ascends by `nat_lt` (`ascends`).
    level : (x y : ℕ) → nat_lt x y ≡ false → nat_lt y x ≡ false → x ≡ y
    level x y e e' = grind (arith, nat_tests)

    ascends : (xs : List ℕ) → IsNonDecreasing xs → Ascends (λ x y. nat_lt x y) xs
    ascends xs up = λ i j below within. let least : get_or xs i 0 ≤ get_or xs j 0 = up i j 0 below within in grind (arith, nat_tests)
