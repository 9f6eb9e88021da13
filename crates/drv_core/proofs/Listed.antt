use Rattle.drv_core.proofs.Counting.{is_less, is_not_less}
use Rattle.drv_core.proofs.Tests.{at_end}
use Rattle.drv_core.specs.Windowed.{count}
use Rattle.std.proofs.Common.{◌≡◌, ◌<◌, ◌≤◌, ◌+◌, ◌∙◌, ◌&&◌, Bool, false, true, List, [], ◌∷◌, ◌++◌, ap, append-nil, arith, get_or}
use Rattle.std.proofs.Common.{if◌then◌else◌, length, nat_lt, refl, subst, suc, sym, zero, ℕ}
use Rattle.std.proofs.lemmas.List.{get_or_append_left, length-append}
use Rattle.std.proofs.lemmas.List.Elements.{filter-append}
use Rattle.std.specs.List.{filter}

-- The numbers that pass a test, in ascending order.

abbrev pub listed : ℕ → (ℕ → Bool) → List ℕ
listed zero p = []
listed (suc n) p = listed n p ++ (if p n then n ∷ [] else [])

-- as many as are counted
pub listed_length : (n : ℕ) (p : ℕ → Bool) → length (listed n p) ≡ count n p
listed_length zero p = refl
listed_length (suc n) p = length-append (listed n p) (if p n then n ∷ [] else []) ∙ by (p n) (listed_length n p)
  where
    by : (t : Bool) → length (listed n p) ≡ count n p → length (listed n p) + length (if t then n ∷ [] else [])
        ≡ (if t then 1 else 0) + count n p
    by true e = omega (arith, e)
    by false e = omega (arith, e)

-- tests that agree list the same
pub listed_same : (n : ℕ) (p q : ℕ → Bool) → ((j : ℕ) → j < n → p j ≡ q j) → listed n p ≡ listed n q
listed_same zero p q e = refl
listed_same (suc n) p q e = rw (e n (omega arith), listed_same n p q (λ j lt. e j (omega arith))) refl

-- the listed numbers that pass another test
pub listed_filter : (n : ℕ) (p q : ℕ → Bool) → filter q (listed n p) ≡ listed n (λ j. p j && q j)
listed_filter zero p q = refl
listed_filter (suc n) p q = filter-append q (listed n p) (if p n then n ∷ [] else [])
    ∙ ap (λ l. l ++ filter q (if p n then n ∷ [] else [])) (listed_filter n p q)
    ∙ ap (λ l. listed n (λ j. p j && q j) ++ l) (by (p n) (q n) refl)
  where
    by : (t u : Bool) → q n ≡ u → filter q (if t then n ∷ [] else []) ≡ (if t && u then n ∷ [] else [])
    by true true e = rw e refl
    by true false e = rw e refl
    by false u e = refl

-- where none from m on passes, those below m are all
pub listed_below : (n m : ℕ) (p : ℕ → Bool) → m ≤ n → ((j : ℕ) → m ≤ j → j < n → p j ≡ false) → listed n p ≡ listed m p
listed_below zero m p le past = ap (λ i. listed i p) (let e : 0 ≡ m = omega (arith, le) in e)
listed_below (suc n) m p le past = by (nat_lt n m) refl (λ less. listed_below n m p less (λ j ge lt. past j ge (omega arith)))
  where
    by : (t : Bool) → nat_lt n m ≡ t → (m ≤ n → listed n p ≡ listed m p) → listed n p ++ (if p n then n ∷ [] else []) ≡ listed m p
    by true e ih = let at : suc n ≡ m = (let less = is_less n m e in omega (arith, le, less)) in ap (λ i. listed i p) at
    by false e ih = let ge : m ≤ n = is_not_less n m e in rw (past n ge (omega arith)) (append-nil (listed n p) ∙ ih ge)

-- one number more at the end
pub listed_more : (n k : ℕ) (p q : ℕ → Bool) → k < n → ((j : ℕ) → j < k → p j ≡ q j) → ((j : ℕ) → k ≤ j → j < n → p j ≡ false)
    → q k ≡ true → ((j : ℕ) → k < j → j < n → q j ≡ false) → listed n p ++ k ∷ [] ≡ listed n q
listed_more n k p q lt alike none here past = ap (λ l. l ++ k ∷ []) (listed_below n k p (omega (arith, lt)) none ∙ listed_same k p q alike)
    ∙ sym (ap (λ (t : Bool). listed k q ++ (if t then k ∷ [] else [])) here)
    ∙ sym (listed_below n (suc k) q (omega (arith, lt)) (λ j ge less. past j (omega (arith, ge)) less))

-- a listed number: it passes, and so many do before it
pub record Is (n : ℕ) (p : ℕ → Bool) (i k : ℕ) : Type 0 where
  pub below : k < n
  pub passes : p k ≡ true
  pub number : count k p ≡ i

pub listed_at : (n i : ℕ) (p : ℕ → Bool) (d : ℕ) → i < count n p → Is n p i (get_or (listed n p) i d)
listed_at zero i p d lt = absurd (omega (arith, lt))
listed_at (suc n) i p d lt = by (nat_lt i (count n p)) refl (λ less. listed_at n i p d less)
  where
    len : length (listed n p) ≡ count n p
    len = listed_length n p

    up : (k : ℕ) → Is n p i k → Is (suc n) p i k
    up k x = record { below = (let less = x.below in omega (arith, less)); passes = x.passes; number = x.number }

    by : (t : Bool) → nat_lt i (count n p) ≡ t → (i < count n p → Is n p i (get_or (listed n p) i d))
        → Is (suc n) p i (get_or (listed (suc n) p) i d)
    by true e ih =
        let less : i < count n p = is_less i (count n p) e in
        subst (λ k. Is (suc n) p i k) (sym (get_or_append_left (listed n p) (if p n then n ∷ [] else []) d i (omega (arith, len, less))))
        (up _ (ih less))
    by false e ih = here (p n) refl (is_not_less i (count n p) e) lt
      where
        here : (t : Bool) → p n ≡ t → count n p ≤ i → i < (if t then 1 else 0) + count n p
            → Is (suc n) p i (get_or (listed n p ++ (if t then n ∷ [] else [])) i d)
        here true is ge lt =
            let at : i ≡ length (listed n p) = omega (arith, ge, lt, len) in
            subst (λ k. Is (suc n) p i k) (sym (ap (λ h. get_or (listed n p ++ n ∷ []) h d) at ∙ at_end (listed n p) n d))
            (record { below = omega arith; passes = is; number = omega (arith, at, len) })
        here false is ge lt = absurd (omega (arith, ge, lt))
