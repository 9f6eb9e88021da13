use Rattle.drv_specs.specs.Lines.{without_end, without_front}
use Rattle.std.proofs.Common.{◌≡◌, ◌<◌, ◌≤◌, ◌+◌, ◌-◌, ◌∙◌, Bool, List, [], ◌∷◌, ◌++◌, ap, arith, cond, drop, false, length, nat_lt, not}
use Rattle.std.proofs.Common.{refl, reverse, suc, sym, take, true, ℕ}
use Rattle.std.proofs.lemmas.Grind.{take_at_read}
use Rattle.std.proofs.lemmas.Bool.Decides.{nat_tests}
use Rattle.std.proofs.lemmas.List.Sums.{prefix_len-le-length}
use Rattle.std.proofs.lemmas.List.{length-drop, reverse-append, reverse-reverse}
use Rattle.std.specs.List.{position, position_or_len, prefix_len}
use Rattle.std.specs.Prelude.{None, Option, Some, get_or, unwrap_or}

-- For `without_blanks` and `without_white`: a text trimmed of the bytes that pass a test, first from its front, then from its end.
-- Names: `text` is a text. `test` is a test of bytes. `byte` is one byte. `end` is where the rest ends. `without_front test text` is a text
-- from the first byte on that fails the test.

-- the bytes that pass at the front are those before the first that doesn't
front_is : (test : ℕ → Bool) (text : List ℕ) → drop (position_or_len (λ b. not (test b)) text) text ≡ without_front test text
front_is test [] = refl
front_is test (b ∷ text) = by (test b) refl (front_is test text)
  where
    -- Plan: by whether the first byte passes: then it goes, and the search goes on behind it (`next`).
    next : (n : ℕ) → drop (1 + n) (b ∷ text) ≡ drop n text
    next n = let plus : 1 + n ≡ suc n = omega arith in ap (λ m. drop m (b ∷ text)) plus

    by : (goes : Bool) → test b ≡ goes → drop (position_or_len (λ c. not (test c)) text) text ≡ without_front test text
        → drop (position_or_len (λ c. not (test c)) (b ∷ text)) (b ∷ text) ≡ without_front test (b ∷ text)
    by true is h = rw is (next (prefix_len (λ c. not (not (test c))) text) ∙ h)
    by false is h = rw is refl

-- a number that is not less is at least as great
not_below : (a b : ℕ) → nat_lt a b ≡ false → b ≤ a
not_below a b is = grind (arith, nat_tests, is)

-- the first place that passes, or the length
place_is : (test : ℕ → Bool) (text : List ℕ) → unwrap_or (position test text) (length text) ≡ position_or_len test text
place_is test text = by (nat_lt (position_or_len test text) (length text)) refl
  where
    -- Plan: `by` goes by both answers of `nat_lt (position_or_len test text) (length text)`.
    by : (below : Bool) → nat_lt (position_or_len test text) (length text) ≡ below
        → unwrap_or (cond below (Some (position_or_len test text)) None) (length text) ≡ position_or_len test text
    by true is = refl
    by false is = let at_least : length text ≤ position_or_len test text = not_below (position_or_len test text) (length text) is in
        omega (arith, at_least, prefix_len-le-length (λ b. not (test b)) text)

-- the code drops the bytes before the first that doesn't pass
pub front_by : (test : ℕ → Bool) (text rest : List ℕ) (place : Option ℕ) (size count : ℕ) → place ≡ position (λ b. not (test b)) text
    → size ≡ length text → count ≡ unwrap_or place size
    → rest ≡ drop count text → rest ≡ without_front test text
front_by test text rest place size count is sized counts cut =
    cut ∙ ap (λ n. drop n text) (counts ∙ ap (unwrap_or place) sized ∙ ap (λ p. unwrap_or p (length text)) is
    ∙ place_is (λ b. not (test b)) text) ∙ front_is test text

-- a trimmed text is not longer
pub front_within : (test : ℕ → Bool) (text rest : List ℕ) → rest ≡ without_front test text → length rest ≤ length text
front_within test text rest is =
    let size : length rest ≡ length text - position_or_len (λ b. not (test b)) text = ap length (is ∙ sym (front_is test text))
    ∙ length-drop (position_or_len (λ b. not (test b)) text) text in
    omega (arith, size)

-- A text trimmed from its end.

-- the first bytes of a text are those before the last of them, and that one
last_of : (text : List ℕ) (end : ℕ) (byte : ℕ) → 0 < end → end - 1 < length text → byte ≡ get_or text (end - 1) byte
    → take end text ≡ take (end - 1) text ++ byte ∷ []
last_of text end byte some below here =
    let whole : end ≡ end - 1 + 1 = omega (arith, some) in
    ap (λ n. take n text) whole ∙ (take_at_read text (end - 1) byte below).1 ∙ ap (λ b. take (end - 1) text ++ b ∷ []) (sym here)

-- a text with one more byte, reversed, begins with it
reversed : (front : List ℕ) (byte : ℕ) → reverse (front ++ byte ∷ []) ≡ byte ∷ reverse front
reversed front byte = reverse-append front (byte ∷ [])

-- one step of the loop from the end: a byte that passes is dropped
pub end_goes : (test : ℕ → Bool) (text : List ℕ) (end : ℕ) (byte : ℕ) → 0 < end → end - 1 < length text → byte ≡ get_or text (end - 1) byte
    → test byte ≡ true
    → without_end test (take (end - 1) text) ≡ without_end test (take end text)
end_goes test text end byte some below here goes =
    sym (ap (without_end test) (last_of text end byte some below here)
    ∙ ap (λ t. reverse (without_front test t)) (reversed (take (end - 1) text) byte) ∙ rw goes refl)

-- the loop from the end stops at a byte that doesn't pass: the text is trimmed
pub end_stays : (test : ℕ → Bool) (text : List ℕ) (end : ℕ) (byte : ℕ) → 0 < end → end - 1 < length text → byte ≡ get_or text (end - 1) byte
    → test byte ≡ false
    → take end text ≡ without_end test (take end text)
end_stays test text end byte some below here stays =
    sym (ap (without_end test) (last_of text end byte some below here)
    ∙ ap (λ t. reverse (without_front test t)) (reversed (take (end - 1) text) byte) ∙ rw stays refl
    ∙ ap reverse (sym (reversed (take (end - 1) text) byte)) ∙ reverse-reverse (take (end - 1) text ++ byte ∷ [])
    ∙ sym (last_of text end byte some below here))

-- a text of which nothing is left is trimmed
pub end_empty : (test : ℕ → Bool) (text : List ℕ) → [] ≡ without_end test (take 0 text)
end_empty test [] = refl
end_empty test (b ∷ text) = refl
