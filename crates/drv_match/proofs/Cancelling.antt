use Rattle.drv_match.specs.Code.Indexed.{positive}
use Rattle.drv_match.specs.Matching.{cancels, has_negative, is_level, is_negative_of, negative}
use Rattle.std.proofs.Common.{◌≡◌, ◌∙◌, ◌==◌, ◌||◌, ◌&&◌, Bool, false, true, List, [], ◌∷◌, None, Option, Some, if◌then◌else◌, nat_eq, refl}
use Rattle.std.proofs.Common.{sym, ℕ}
use Rattle.std.proofs.Math.Bool.{and-false}
use Rattle.std.proofs.lemmas.Bool.{eqb-true}
use Rattle.std.proofs.lemmas.Cmp.{nat_eq_equiv, nat_list_eq_equiv}
use Rattle.std.specs.Cmp.Lexicographic.{pointwise}
use Rattle.std.specs.Str.{byte}

-- For liveness: what cancels a name. Any level cancels a level, and a negative form and its positive form cancel each other.
-- Names: `name` is the name of a switch. `other` is another name. `t` is the value of a test, so that `by` can go by both cases.
-- `has_negative` says that a name has a form with `no-`. `is_level` says that a name is a level of -O. `cancels later earlier` says that a
-- later switch cancels an earlier one. `positive` is a name without its `no-`. `is_negative_of`: the first name is the negative form of the
-- second.

-- whether a name is this one, if there is one
abbrev pub is_this : Option (List ℕ) → List ℕ → Bool
is_this None other = false
is_this (Some name) other = pointwise nat_eq name other

-- a name that has a negative form is the negative form of `other` if `other` is the name without `no-`
as_positive : (other name : List ℕ) → has_negative name ≡ true → is_negative_of name other ≡ is_this (positive name) other
as_positive other [] h = absurd cc
as_positive [] (a ∷ []) h = refl
as_positive [] (a ∷ x ∷ []) h = refl
as_positive [] (a ∷ x ∷ y ∷ []) h = refl
as_positive [] (a ∷ x ∷ y ∷ z ∷ rest) h = by (x == byte "n" && y == byte "o" && z == byte "-")
  where
    by : (t : Bool) → false ≡ is_this (if t then Some (a ∷ rest) else None) []
    by true = refl
    by false = refl
as_positive (b ∷ other) (a ∷ []) h = rw (and-false, and-false) refl
as_positive (b ∷ other) (a ∷ x ∷ []) h = rw (and-false, and-false, and-false) refl
as_positive (b ∷ other) (a ∷ x ∷ y ∷ []) h = rw (and-false, and-false, and-false, and-false) refl
as_positive (b ∷ other) (a ∷ x ∷ y ∷ z ∷ rest) h = by (b == a) refl
  where
    -- Plan: by whether both names begin with the same letter: then the rest has to begin with `no-` (`tests`), else neither side holds
    -- (`apart`).
    tests : (u v w : Bool) → (u && (v && (w && pointwise nat_eq other rest)))
        ≡ is_this (if u && v && w then Some (a ∷ rest) else None) (a ∷ other)
    tests true true true = rw (nat_eq_equiv.refl a) (nat_list_eq_equiv.symm other rest)
    tests true true false = refl
    tests true false w = refl
    tests false v w = refl

    apart : (t : Bool) → (b == a) ≡ false → is_this (if t then Some (a ∷ rest) else None) (b ∷ other) ≡ false
    apart true e = rw (nat_eq_equiv.symm a b, e) refl
    apart false e = refl

    by : (t : Bool) → (b == a) ≡ t → is_negative_of (a ∷ x ∷ y ∷ z ∷ rest) (b ∷ other)
        ≡ is_this (positive (a ∷ x ∷ y ∷ z ∷ rest)) (b ∷ other)
    by true e =
        let same : b ≡ a = eqb-true b a e in
        rw (same, h, nat_eq_equiv.refl a, nat_eq_equiv.symm (byte "n") x, nat_eq_equiv.symm (byte "o") y, nat_eq_equiv.symm (byte "-") z)
        (tests (x == byte "n") (y == byte "o") (z == byte "-"))
    by false e = rw (e, and-false) (sym (apart (x == byte "n" && y == byte "o" && z == byte "-") e))

-- a name with a negative form is cancelled by that, or by its positive form if it is a negative one
pub other_cancels : (other name : List ℕ) → is_level name ≡ false → has_negative name ≡ true
    → cancels other name ≡ (pointwise nat_eq (negative name) other || is_this (positive name) other)
other_cancels other name e h = rw (e, and-false, h, as_positive other name h) refl
