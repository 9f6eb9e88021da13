use Rattle.drv_words.specs.FileNames.{split_at_last}
use Rattle.std.proofs.Common.{append-nil, arith, ◌≡◌, ◌∙◌, ◌++◌, ◌==◌, ◌+◌, ◌-◌, ◌<◌, ◌≤◌, ◌≢◌, Bool, List, [], ◌∷◌, None, Some, ap, drop}
use Rattle.std.proofs.Common.{eqb-true, false, get_or, length, refl, suc, sym, take, true, ℕ}
use Rattle.std.proofs.lemmas.Bool.Decides.{nat_tests}
use Rattle.std.proofs.lemmas.List.{drop_more, get_or-drop, length-drop, take-append-drop, take_all}

-- For `split_at_last`: a search from the end of a name finds the last byte of a kind.
-- Names: `mark` is a byte: a quotation mark, or the one that a search looks for. `name` is the name of a file.

-- the byte is at the front, and none comes after it
parted_here : (mark b : ℕ) (name : List ℕ) → (b == mark) ≡ true → split_at_last mark name ≡ None → split_at_last mark (b ∷ name)
    ≡ Some ([], name)
parted_here mark b name is none = rw (none, is) refl

-- equal numbers pass the code's test
equal : (a b : ℕ) → a ≡ b → (a == b) ≡ true
equal a b same = grind (arith, nat_tests)

-- a name with a front before it is parted at the same byte
parted_after : (mark : ℕ) (front name before following : List ℕ) → split_at_last mark name ≡ Some (before, following)
    → split_at_last mark (front ++ name) ≡ Some (front ++ before, following)
parted_after mark [] name before following is = is
parted_after mark (b ∷ front) name before following is = rw (parted_after mark front name before following is) refl

-- a name without the byte is not parted
pub parted_nowhere : (mark : ℕ) (name : List ℕ) → ((k : ℕ) → k < length name → get_or name k 0 ≢ mark) → split_at_last mark name ≡ None
parted_nowhere mark [] none = refl
parted_nowhere mark (b ∷ name) none = rw (
  parted_nowhere mark name (λ k within. none (suc k) (omega (arith, within))),
  other
      (b == mark) refl,
) refl
  where
    other : (here : Bool) → (b == mark) ≡ here → (b == mark) ≡ false
    other true h = absurd (none 0 (omega arith) (eqb-true b mark h))
    other false h = h

-- a name that has the byte at this index, and none after it, is parted there
pub parted_at : (mark i : ℕ) (name : List ℕ) → i < length name → get_or name i 0 ≡ mark → split_at_last mark (drop (i + 1) name) ≡ None
    → Some (take i name, take (length name - (i + 1)) (drop (i + 1) name)) ≡ split_at_last mark name
parted_at mark i name within is none =
    let all : take (length name - (i + 1)) (drop (i + 1) name) ≡ drop (i + 1) name =
    take_all (length name - (i + 1)) (drop (i + 1) name) (omega (arith, length-drop (i + 1) name)) in
    let here : split_at_last mark (drop i name) ≡ Some ([], drop (i + 1) name) = ap (split_at_last mark) (drop_more name i 0 within)
    ∙ parted_here mark (get_or name i 0) (drop (i + 1) name) (equal (get_or name i 0) mark is) none in
    ap (λ rest. Some (take i name, rest)) all
    ∙ sym (ap (λ front. Some (front, drop (i + 1) name)) (append-nil (take i name)))
    ∙ sym (parted_after mark (take i name) (drop i name) [] (drop (i + 1) name) here)
    ∙ ap (split_at_last mark) (take-append-drop i name)

-- past the last index no byte of the kind follows
pub nowhere_after : (mark i : ℕ) (name : List ℕ) → ((k : ℕ) → i + 1 ≤ k → k < length name → get_or name k 0 ≢ mark)
    → split_at_last mark (drop (i + 1) name) ≡ None
nowhere_after mark i name none = parted_nowhere mark (drop (i + 1) name) (λ k within same.
    none (i + 1 + k) (omega arith) (omega (arith, within, length-drop (i + 1) name)) (sym (get_or-drop (i + 1) name k 0) ∙ same))
