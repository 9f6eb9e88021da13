use Rattle.drv_syntax.specs.Bytes.{is_front, is_same}
use Rattle.std.proofs.Common.{◌≡◌, ℕ, ◌<◌, ◌≤◌, Bool, true, false, List, [], ◌∷◌, ◌++◌, length, get_or, take, refl, ap, ◌∙◌, arith}
use Rattle.std.specs.Cmp.Lexicographic.{pointwise}
use Rattle.std.specs.Prelude.{◌==◌, ◌&&◌, nat_eq, if◌then◌else◌}

-- A function's name, and whether a byte goes on with one, are compared byte by byte. It serves `is_function` and `is_function_front`.
-- Names: `t`, `u`, `same`: a test's value, so that `by` can go by both cases. `p`, `q`, `name`, `longer`: bytes. `b`: a byte.
-- `is_front`: the first is a front of the second.

-- t and u is u if t is true, and else false
both : (t : Bool) (u : Bool) → (t && u) ≡ (if t then u else false)
both true u = refl
both false u = refl

-- names are the same if their bytes are, one by one
pub same_pointwise : (p q : List ℕ) → pointwise nat_eq p q ≡ is_same p q
same_pointwise [] [] = refl
same_pointwise [] (c ∷ q) = refl
same_pointwise (b ∷ p) [] = refl
same_pointwise (b ∷ p) (c ∷ q) = both (b == c) (pointwise nat_eq p q) ∙ ap (λ z. if b == c then z else false) (same_pointwise p q)

-- a name and a byte more are no front of a name that is no longer than the first one
pub front_short : (name longer : List ℕ) (b : ℕ) → length longer ≤ length name → is_front (name ++ b ∷ []) longer ≡ false
front_short [] [] b h = refl
front_short [] (c ∷ longer) b h = absurd (omega arith)
front_short (a ∷ name) [] b h = refl
front_short (a ∷ name) (c ∷ longer) b h = by (a == c) (front_short name longer b (omega arith))
  where
    by : (same : Bool) → is_front (name ++ b ∷ []) longer ≡ false → (if same then is_front (name ++ b ∷ []) longer else false) ≡ false
    by true e = e
    by false e = refl

-- a name and a byte more are a front of a longer name exactly if the longer one begins with the same bytes
pub front_long : (name longer : List ℕ) (b : ℕ) → length name < length longer
    → is_front (name ++ b ∷ []) longer ≡ (pointwise nat_eq name (take (length name) longer) && (b == get_or longer (length name) 0))
front_long [] [] b h = absurd (omega arith)
front_long [] (c ∷ longer) b h = by (b == c)
  where
    by : (same : Bool) → (if same then true else false) ≡ (true && same)
    by true = refl
    by false = refl
front_long (a ∷ name) [] b h = absurd (omega arith)
front_long (a ∷ name) (c ∷ longer) b h = by (a == c) _ _ _ (front_long name longer b (omega arith))
  where
    by : (same front bytes last : Bool) → front ≡ (bytes && last) → (if same then front else false) ≡ ((same && bytes) && last)
    by true front bytes last e = e
    by false front bytes last e = refl
