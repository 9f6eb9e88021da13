use Rattle.std.proofs.Common.{◌≡◌, ◌∷◌, ◌++◌, ◌∙◌, [], Bool, List, drop, false, length, nat_eq, refl, sym, take, true, ℕ}
use Rattle.std.proofs.lemmas.Bool.{false≢true}
use Rattle.std.specs.Cmp.Lexicographic.{pointwise}

-- For `are_numbers` (src/written.rt): whether a line is a text and then another.

-- if a line begins with a text, then it is that text and another exactly if its rest is the other
pub is_after : (line begin other : List ℕ) → pointwise nat_eq (take (length begin) line) begin ≡ true
    → pointwise nat_eq line (begin ++ other) ≡ pointwise nat_eq (drop (length begin) line) other
is_after line [] other begins = refl
is_after [] (b ∷ begin) other begins = absurd (false≢true begins)
is_after (a ∷ line) (b ∷ begin) other begins = by (nat_eq a b) refl begins (is_after line begin other)
  where
    by : (same : Bool) → nat_eq a b ≡ same → pointwise nat_eq (take (length (b ∷ begin)) (a ∷ line)) (b ∷ begin) ≡ true
        → (pointwise nat_eq (take (length begin) line) begin ≡ true
        → pointwise nat_eq line (begin ++ other) ≡ pointwise nat_eq (drop (length begin) line) other)
        → pointwise nat_eq (a ∷ line) ((b ∷ begin) ++ other) ≡ pointwise nat_eq (drop (length (b ∷ begin)) (a ∷ line)) other
    by true is all further = rw is (further (sym (rw is refl) ∙ all))
    by false is all further = absurd (false≢true (sym (rw is refl) ∙ all))

-- if it doesn't begin with that text, then it isn't the two
pub is_not_after : (line begin other : List ℕ) → pointwise nat_eq (take (length begin) line) begin ≡ false
    → pointwise nat_eq line (begin ++ other) ≡ false
is_not_after line [] other begins = absurd (false≢true (sym begins))
is_not_after [] (b ∷ begin) other begins = refl
is_not_after (a ∷ line) (b ∷ begin) other begins = by (nat_eq a b) refl begins (is_not_after line begin other)
  where
    by : (same : Bool) → nat_eq a b ≡ same → pointwise nat_eq (take (length (b ∷ begin)) (a ∷ line)) (b ∷ begin) ≡ false
        → (pointwise nat_eq (take (length begin) line) begin ≡ false → pointwise nat_eq line (begin ++ other) ≡ false)
        → pointwise nat_eq (a ∷ line) ((b ∷ begin) ++ other) ≡ false
    by true is all further = rw is (further (sym (rw is refl) ∙ all))
    by false is all further = rw is refl
