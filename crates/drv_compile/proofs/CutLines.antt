use Rattle.bstr.specs.Find.{IsFirstByte, is_byte}
use Rattle.drv_compile.specs.Compilers.{lines}
use Rattle.drv_specs.proofs.Found.{clean_all, found_below, line_clean, line_found}
use Rattle.drv_words.specs.Bytes.{newline}
use Rattle.std.proofs.Common.{◌≡◌, ◌<◌, ◌+◌, ◌-◌, ◌∙◌, ◌==◌, ◌&&◌, Bool, List, [], ◌∷◌, ◌++◌, ap, arith, drop, false, length, not, refl}
use Rattle.std.proofs.Common.{sym, take, true, ℕ}
use Rattle.std.proofs.lemmas.List.{length-drop, take_all}
use Rattle.std.proofs.lemmas.List.Splits.{slice_split-cons_no, slice_split-cons_yes}
use Rattle.std.specs.List.{list_all, onto_first}
use Rattle.std.specs.Prelude.{None, Option, Some}

-- For the files beside a spec file (src/compilers.rt): the search for the end of a line gives the first line.
-- Names: `text` is the text of a file. `line` is one line, and `after` what follows its newline. `found` is the place of the first newline,
-- if there is one, and `at` that place. `lines` is the lines of a text. `IsFirstByte` is what the search promises of that place.

-- a byte that is no newline, and a rest without one: what a line without newlines is made of
both : (t u : Bool) → (not t && u) ≡ true → (t ≡ false) × (u ≡ true)
both true u e = absurd cc
both false u e = (refl, e)

-- what precedes a newline is a line by itself
first_line : (line after : List ℕ) → list_all (λ b. not (b == newline)) line ≡ true → lines (line ++ newline ∷ after) ≡ line ∷ lines after
first_line [] after clean = slice_split-cons_yes (λ b. b == newline) newline after refl
first_line (b ∷ line) after clean =
    let parts = both (b == newline) (list_all (λ b. not (b == newline)) line) clean in
    slice_split-cons_no (λ b. b == newline) b (line ++ newline ∷ after) parts.0 ∙ ap (onto_first b) (first_line line after parts.1)

-- a text without a newline is a line by itself
only_line : (line : List ℕ) → list_all (λ b. not (b == newline)) line ≡ true → lines line ≡ line ∷ []
only_line [] clean = refl
only_line (b ∷ line) clean =
    let parts = both (b == newline) (list_all (λ b. not (b == newline)) line) clean in
    slice_split-cons_no (λ b. b == newline) b line parts.0 ∙ ap (onto_first b) (only_line line parts.1)

-- For `cut_line`: if a newline is found, then the bytes before it are the first line, and the lines of the rest follow.
pub line_cut : (text : List ℕ) (found : Option ℕ) (at : ℕ) → IsFirstByte (is_byte newline) text found → found ≡ Some at
    → lines text ≡ take at text ∷ lines (drop (at + 1) text)
line_cut text found at h is = ap lines (line_found text found at h is)
    ∙ first_line (take at text) (drop (at + 1) text) (line_clean text found at h is)

-- as the code cuts it off
pub line_cut_off : (text : List ℕ) (found : Option ℕ) (at : ℕ) → IsFirstByte (is_byte newline) text found → found ≡ Some at
    → lines text ≡ take at text ∷ lines (take (length text - (at + 1)) (drop (at + 1) text))
line_cut_off text found at h is =
    line_cut text found at h is
    ∙ ap (λ rest. take at text ∷ lines rest) (sym (take_all (length text - (at + 1)) (drop (at + 1) text)
    (omega (arith, length-drop (at + 1) text))))

-- If no newline is found, then the text is its only line.
pub line_alone : (text : List ℕ) (found : Option ℕ) → IsFirstByte (is_byte newline) text found → found ≡ None → lines text ≡ text ∷ []
line_alone text found h is = only_line text (clean_all (is_byte newline) text found h is)

-- the rest is shorter, so a loop over it ends
pub less_left : (text : List ℕ) (found : Option ℕ) (at : ℕ) → IsFirstByte (is_byte newline) text found → found ≡ Some at
    → length (drop (at + 1) text) < length text
less_left text found at h is = omega (arith, length-drop (at + 1) text, found_below (is_byte newline) text found at h is)
