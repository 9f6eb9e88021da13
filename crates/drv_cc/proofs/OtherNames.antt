use Rattle.drv_cc.proofs.Parts.{same_is}
use Rattle.drv_cc.specs.Code.Parts.{last_byte}
use Rattle.drv_cc.specs.Items.{same}
use Rattle.std.proofs.Common.{◌≡◌, ◌==◌, ◌∙◌, Bool, List, ap, false, length, refl, sym, true, ℕ}
use Rattle.std.proofs.lemmas.Bool.{eq-eqb}

-- For `is` (src/classes.rt), which compares lengths and last bytes before all bytes.
-- Names: `a` and `b` are two names. `x` and `y` are their last bytes. `of` gives a number of a name. `same` says that two texts have the
-- same bytes.

-- Names that a number tells apart are not the same.
apart : (of : List ℕ → ℕ) (a b : List ℕ) → (of a == of b) ≡ false → false ≡ same a b
apart of a b other = by (same a b) refl
  where
    -- Plan: `by` goes by both answers of `same a b`.
    by : (t : Bool) → same a b ≡ t → false ≡ t
    by false e = refl
    by true e = absurd (let clash : true ≡ false = sym (eq-eqb (of a) (of b) (ap of (same_is a b e))) ∙ other in cc)

-- names whose lengths differ are not the same
pub other_length : (a b : List ℕ) → (length a == length b) ≡ false → false ≡ same a b
other_length a b other = apart length a b other

-- names whose last bytes differ are not the same
pub other_end : (a b : List ℕ) (x y : ℕ) → x ≡ last_byte a → y ≡ last_byte b → (x == y) ≡ false → false ≡ same a b
other_end a b x y x_is y_is other = apart last_byte a b (ap (λ z. z == last_byte b) (sym x_is) ∙ ap (λ z. x == z) (sym y_is) ∙ other)
