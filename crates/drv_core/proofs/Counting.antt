use Rattle.drv_core.specs.Windowed.{count}
use Rattle.std.proofs.Common.{◌≡◌, ◌⊎◌, ◌<◌, ◌≤◌, ◌+◌, Bool, false, true, arith, if◌then◌else◌, inl, inr, nat_eq, nat_lt, refl, subst}
use Rattle.std.proofs.Common.{suc, sym, zero, ℕ}
use Rattle.std.proofs.lemmas.Bool.Decides.{nat_tests}

-- How many numbers pass a test.

-- a true test for less: the first is less
pub is_less : (a b : ℕ) → nat_lt a b ≡ true → a < b
is_less a b e = grind (arith, nat_tests)

-- a false test for less: the second is at most the first
pub is_not_less : (a b : ℕ) → nat_lt a b ≡ false → b ≤ a
is_not_less a b e = grind (arith, nat_tests)

-- a number that is at least another is not less
pub not_less : (a b : ℕ) → b ≤ a → nat_lt a b ≡ false
not_less a b h = grind (arith, nat_tests)

-- a true test for equality: the numbers are equal
pub same : (a b : ℕ) → nat_eq a b ≡ true → a ≡ b
same a b e = grind (arith, nat_tests)

-- a smaller number fails the test for equality
pub apart : (a b : ℕ) → a < b → nat_eq a b ≡ false
apart a b h = grind (arith, nat_tests)

-- where no number passes, the count is 0
pub count_none : (n : ℕ) (p : ℕ → Bool) → ((j : ℕ) → j < n → p j ≡ false) → count n p ≡ 0
count_none zero p h = refl
count_none (suc n) p h = rw (h n (omega arith), count_none n p (λ j lt. h j (omega arith))) refl

-- where at most number k passes, the count is at most 1
pub count_other : (n k : ℕ) (p : ℕ → Bool) → ((j : ℕ) → nat_eq j k ≡ false → p j ≡ false) → count n p ≤ 1
count_other zero k p h = omega arith
count_other (suc n) k p h = by (nat_eq n k) refl (count_other n k p h)
  where
    -- Plan: by whether number n is k: then no earlier one passes, else n doesn't.
    one : (t : Bool) → (if t then 1 else 0) ≤ 1
    one true = omega arith
    one false = omega arith

    by : (t : Bool) → nat_eq n k ≡ t → count n p ≤ 1 → (if p n then 1 else 0) + count n p ≤ 1
    by true e rest =
        let is : n ≡ k = same n k e in
        let others : count n p ≡ 0 = count_none n p (λ j lt. h j (apart j k (omega arith))) in
        let here : (if p n then 1 else 0) ≤ 1 = one (p n) in
        rw others (omega arith)
    by false e rest = rw (h n e) (omega arith)

-- where one passes, the count is at least 1
pub count_some : (n k : ℕ) (p : ℕ → Bool) → k < n → p k ≡ true → 1 ≤ count n p
count_some zero k p lt e = absurd (omega arith)
count_some (suc n) k p lt e = by (nat_eq k n) refl (λ below. count_some n k p below e)
  where
    by : (t : Bool) → nat_eq k n ≡ t → (k < n → 1 ≤ count n p) → 1 ≤ (if p n then 1 else 0) + count n p
    by true is ih = let at : k ≡ n = same k n is in let here : p n ≡ true = rw (← at) e in rw here (omega arith)
    by false is ih = let rest : 1 ≤ count n p = ih (grind (arith, nat_tests)) in omega arith

-- tests that agree below n count the same
pub count_same : (n : ℕ) (p q : ℕ → Bool) → ((j : ℕ) → j < n → p j ≡ q j) → count n p ≡ count n q
count_same zero p q e = refl
count_same (suc n) p q e = rw (e n (omega arith), count_same n p q (λ j lt. e j (omega arith))) refl

-- a test that implies another counts at most as much
bit : (s t : Bool) → (s ≡ true → t ≡ true) → (if s then 1 else 0) ≤ (if t then 1 else 0)
bit true true h = omega arith
bit true false h = absurd (let e : false ≡ true = h refl in cc)
bit false true h = omega arith
bit false false h = omega arith

-- a test that passes where another does counts at least as many
pub count_fewer : (n : ℕ) (p q : ℕ → Bool) → ((j : ℕ) → j < n → p j ≡ true → q j ≡ true) → count n p ≤ count n q
count_fewer zero p q h = omega arith
count_fewer (suc n) p q h =
    let here : (if p n then 1 else 0) ≤ (if q n then 1 else 0) = bit (p n) (q n) (h n (omega arith)) in
    let rest : count n p ≤ count n q = count_fewer n p q (λ j lt e. h j (omega arith) e) in
    omega arith

-- a test that passes at one number more counts one more
pub count_with : (n k : ℕ) (old new : ℕ → Bool) → k < n → old k ≡ false → new k ≡ true → ((j : ℕ) → nat_eq j k ≡ false → new j ≡ old j)
    → count n new ≡ count n old + 1
count_with zero k old new lt pk qk others = absurd (omega arith)
count_with (suc n) k old new lt pk qk others = by (nat_eq n k) refl (λ below. count_with n k old new below pk qk others)
  where
    -- Plan: by whether the number is the last one.
    by : (t : Bool) → nat_eq n k ≡ t → (k < n → count n new ≡ count n old + 1)
        → (if new n then 1 else 0) + count n new ≡ (if old n then 1 else 0) + count n old + 1
    by true e ih =
        let is : n ≡ k = same n k e in
        let pn : old n ≡ false = subst (λ i. old i ≡ false) (sym is) pk in
        let qn : new n ≡ true = subst (λ i. new i ≡ true) (sym is) qk in
        let rest : count n new ≡ count n old = count_same n new old (λ j below. others j (grind (arith, nat_tests))) in
        rw (pn, qn, rest) (omega arith)
    by false e ih =
        let rest : count n new ≡ count n old + 1 = ih (grind (arith, nat_tests)) in
        rw (others n e, rest) (omega arith)

-- the first number below n that passes
pub record First (n : ℕ) (p : ℕ → Bool) : Type 0 where
  pub at : ℕ
  pub below : at < n
  pub passes : p at ≡ true
  pub before : (j : ℕ) → j < at → p j ≡ false

-- the first number that passes, or none does
pub find : (n : ℕ) (p : ℕ → Bool) → First n p ⊎ ((j : ℕ) → j < n → p j ≡ false)
find zero p = inr (λ j lt. absurd (omega arith))
find (suc n) p = by (find n p)
  where
    -- Plan: by whether an earlier number passes; if none does, by whether number n does (`at_n`).
    at_n : (t : Bool) → p n ≡ t → ((j : ℕ) → j < n → p j ≡ false) → First (suc n) p ⊎ ((j : ℕ) → j < suc n → p j ≡ false)
    at_n true e none = inl (record { at = n; below = omega arith; passes = e; before = none })
    at_n false e none = inr (λ j lt. here j lt (nat_eq j n) refl)
      where
        here : (j : ℕ) → j < suc n → (t : Bool) → nat_eq j n ≡ t → p j ≡ false
        here j lt true is = subst (λ i. p i ≡ false) (sym (same j n is)) e
        here j lt false is = none j (grind (arith, nat_tests))

    by : First n p ⊎ ((j : ℕ) → j < n → p j ≡ false) → First (suc n) p ⊎ ((j : ℕ) → j < suc n → p j ≡ false)
    by (inl f) = inl (record { at = f.at; below = (let lt : f.at < n = f.below in omega arith); passes = f.passes; before = f.before })
    by (inr none) = at_n (p n) refl none

-- tests that differ at one number count at most one more
pub count_up : (n k : ℕ) (p q : ℕ → Bool) → ((j : ℕ) → nat_eq k j ≡ false → q j ≡ p j) → count n q ≤ count n p + 1
count_up zero k p q others = omega arith
count_up (suc n) k p q others = by (nat_eq k n) refl (count_up n k p q others)
  where
    most : (s t : Bool) → (if s then 1 else 0) ≤ (if t then 1 else 0) + 1
    most true true = omega arith
    most true false = omega arith
    most false t = omega arith

    by : (t : Bool) → nat_eq k n ≡ t → count n q ≤ count n p + 1
        → (if q n then 1 else 0) + count n q ≤ (if p n then 1 else 0) + count n p + 1
    by true e ih =
        let is : k ≡ n = same k n e in
        let rest : count n q ≡ count n p = count_same n q p (λ j lt. others j (grind (arith, nat_tests))) in
        let here = most (q n) (p n) in
        omega (arith, rest, here)
    by false e ih = rw (others n e) (omega (arith, ih))

-- the sum of f over the numbers below n
abbrev pub summed : ℕ → (ℕ → ℕ) → ℕ
summed zero f = 0
summed (suc n) f = f n + summed n f

-- functions that agree below n have the same sum
pub summed_same : (n : ℕ) (f g : ℕ → ℕ) → ((j : ℕ) → j < n → f j ≡ g j) → summed n f ≡ summed n g
summed_same zero f g e = refl
summed_same (suc n) f g e = rw (e n (omega arith), summed_same n f g (λ j lt. e j (omega arith))) refl

-- a sum of which one part has fallen
pub summed_down : (n k d : ℕ) (old new : ℕ → ℕ) → k < n → d + new k ≤ old k → ((j : ℕ) → nat_eq k j ≡ false → new j ≡ old j)
    → d + summed n new ≤ summed n old
summed_down zero k d old new lt less others = absurd (omega (arith, lt))
summed_down (suc n) k d old new lt less others = by (nat_eq k n) refl (λ below. summed_down n k d old new below less others)
  where
    by : (t : Bool) → nat_eq k n ≡ t → (k < n → d + summed n new ≤ summed n old) → d + (new n + summed n new) ≤ old n + summed n old
    by true e ih =
        let here : d + new n ≤ old n = subst (λ i. d + new i ≤ old i) (same k n e) less in
        let rest : summed n new ≡ summed n old = summed_same n new old (λ j below. others j (grind (arith, nat_tests))) in
        omega (arith, here, rest)
    by false e ih =
        let rest : d + summed n new ≤ summed n old = ih (grind (arith, nat_tests)) in
        let here : new n ≡ old n = others n e in
        omega (arith, rest, here)
