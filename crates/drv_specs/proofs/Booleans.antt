use Rattle.std.proofs.Common.{◌≡◌, ◌∙◌, ◌==◌, ◌&&◌, Bool, ap, eqb-true, false, not, refl, sym, true, ℕ}

-- For all lemmas of this crate: tests that hold together.
-- Names: `a` and `b` are values of tests; in `differs` `b` is a byte, and `n` one that doesn't pass the test.

-- the first part of a true && is true
pub and_first : (a b : Bool) → (a && b) ≡ true → a ≡ true
and_first true b both = refl
and_first false b both = both

-- the second part of a true && is true
pub and_second : (a b : Bool) → (a && b) ≡ true → b ≡ true
and_second true b both = both
and_second false b both = absurd cc

-- a value whose `not` is true is false
pub not_true : (a : Bool) → not a ≡ true → a ≡ false
not_true true is = absurd cc
not_true false is = refl

-- the `not` of a false value is true
pub not_false : (a : Bool) → a ≡ false → not a ≡ true
not_false a is = ap not is

-- a byte that passes a test is none that doesn't
pub differs : (test : ℕ → Bool) (b n : ℕ) → test n ≡ false → test b ≡ true → (b == n) ≡ false
differs test b n fails passes = by (b == n) refl
  where
    -- Plan: `by` goes by both answers of `b == n`.
    by : (same : Bool) → (b == n) ≡ same → (b == n) ≡ false
    by false same = same
    by true same = let impossible : true ≡ false = sym passes ∙ ap test (eqb-true b n same) ∙ fails in absurd cc
