use Rattle.bstr.specs.Find.{IsFirstByte, is_byte}
use Rattle.drv_specs.proofs.Found.{line_alone, line_clean, line_found}
use Rattle.drv_specs.specs.Lines.{ends_line}
use Rattle.drv_words.specs.Bytes.{newline}
use Rattle.std.proofs.Common.{◌≡◌, ◌∙◌, ◌+◌, ◌++◌, ◌∷◌, ◌&&◌, Bool, List, None, Option, Some, [], ap, drop, false, filter, if◌then◌else◌}
use Rattle.std.proofs.Common.{length, not, refl, suc, take, true, ℕ}
use Rattle.std.proofs.lemmas.List.Elements.{filter-append}
use Rattle.std.specs.List.{list_all}

-- For line_number (src/lines.rt): newlines are counted one after another.
-- Names: `t`: a test's value, so that `by` can go by both cases. `ends_line`: a newline ends a line.

-- Where no byte is a newline, there are none.
none_in : (text : List ℕ) → list_all (λ b. not (ends_line b)) text ≡ true → filter ends_line text ≡ []
none_in [] clean = refl
none_in (b ∷ text) clean = by (ends_line b) refl (none_in text) clean
  where
    by : (t : Bool) → ends_line b ≡ t → (list_all (λ b. not (ends_line b)) text ≡ true → filter ends_line text ≡ [])
        → (not t && list_all (λ b. not (ends_line b)) text) ≡ true → (if t then b ∷ filter ends_line text else filter ends_line text) ≡ []
    by true is rest clean = absurd cc
    by false is rest clean = rest clean

-- The first newline is one more than those that follow it.
pub one_more : (text : List ℕ) (found : Option ℕ) (at : ℕ) → IsFirstByte (is_byte newline) text found → found ≡ Some at
    → length (filter ends_line text) ≡ suc (length (filter ends_line (drop (at + 1) text)))
one_more text found at first is =
    ap (λ t. length (filter ends_line t)) (line_found text found at first is)
    ∙ ap length (filter-append ends_line (take at text) (newline ∷ drop (at + 1) text))
    ∙ ap (λ front. length (front ++ filter ends_line (newline ∷ drop (at + 1) text)))
    (none_in (take at text) (line_clean text found at first is))

-- Where none is found, there is none.
pub none_left : (text : List ℕ) (found : Option ℕ) → IsFirstByte (is_byte newline) text found → found ≡ None
    → length (filter ends_line text) ≡ 0
none_left text found first is = ap length (none_in text (line_alone text found first is))
