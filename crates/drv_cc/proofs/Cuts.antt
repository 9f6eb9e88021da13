use Rattle.drv_cc.specs.Items.{first_line, head_of}
use Rattle.drv_words.specs.Bytes.{equals, newline}
use Rattle.std.proofs.Common.{arith, ◌≡◌, ◌==◌, ◌+◌, ◌≤◌, ◌∙◌, Bool, List, [], ◌∷◌, None, Some, ap, cond, false, if◌then◌else◌, length}
use Rattle.std.proofs.Common.{nat_lt, not, refl, suc, sym, take, true, ℕ}
use Rattle.std.proofs.lemmas.Bool.Decides.{nat_tests}
use Rattle.std.proofs.lemmas.List.{take_all}
use Rattle.std.specs.List.{position, position_or_len}

-- For the name of an option up to its `=` (src/values.rt), and a first line (src/known.rt): a text is cut at the first byte of a kind.
-- Names: `text` is the text that is cut. `mark` is the byte at which it is cut. `i` is a place in the text. `before mark text` is how many
-- bytes precede the first such byte. `head_of` is a name up to its first `=`, and that too. `first_line` is a text up to the end of its
-- first line.

-- The test of a byte by which std's `position` looks.
abbrev is_mark : ℕ → ℕ → Bool
is_mark mark b = b == mark

-- how many bytes precede it
abbrev before : ℕ → List ℕ → ℕ
before mark text = position_or_len (is_mark mark) text

-- The place that std's search finds is the number of bytes before it.
place_is : (mark : ℕ) (text : List ℕ) (i : ℕ) → position (is_mark mark) text ≡ Some i → before mark text ≡ i
place_is mark text i is = by (nat_lt (before mark text) (length text)) is
  where
    -- Plan: `by` goes by both answers of `nat_lt (before mark text) (length text)`.
    by : (below : Bool) → cond below (Some (before mark text)) None ≡ Some i → before mark text ≡ i
    by true e = cc
    by false e = absurd cc

-- Where the search finds none, the whole text comes before the mark.
no_place : (mark : ℕ) (text : List ℕ) → position (is_mark mark) text ≡ None → length text ≤ before mark text
no_place mark text none = by (nat_lt (before mark text) (length text)) refl none
  where
    -- Plan: `by` goes by both answers of `nat_lt (before mark text) (length text)`.
    by : (below : Bool) → nat_lt (before mark text) (length text) ≡ below → cond below (Some (before mark text)) None ≡ None
        → length text ≤ before mark text
    by true is e = absurd cc
    by false is e = grind (arith, nat_tests, is)

-- For the length of a head after one more byte: sums of ℕ are compared here once.
one_more : (n : ℕ) → 1 + n + 1 ≡ suc (n + 1)
one_more n = omega arith

-- The definition's `head_of` (specs/Items.antt) goes byte by byte; this says that it cuts behind the first `=`.
head_is : (text : List ℕ) → take (before equals text + 1) text ≡ head_of text
head_is [] = refl
head_is (b ∷ text) = by (b == equals) (head_is text)
  where
    -- Plan: `n` is how many bytes precede the first `=` of the rest; `by` goes by whether the first byte is `=`.
    n : ℕ
    n = before equals text

    by : (here : Bool) → take (n + 1) text ≡ head_of text
        → take (cond (not here) (1 + n) 0 + 1) (b ∷ text) ≡ (if here then b ∷ [] else b ∷ head_of text)
    by true rest = refl
    by false rest = ap (λ m. take m (b ∷ text)) (one_more n) ∙ ap (λ l. b ∷ l) rest

-- For `head_of` (src/values.rt), where the name has a `=`.
pub head_at : (text : List ℕ) (i : ℕ) → position (is_mark equals) text ≡ Some i → take (i + 1) text ≡ head_of text
head_at text i is = sym (ap (λ n. take (n + 1) text) (place_is equals text i is)) ∙ head_is text

-- For `head_of`, where it has none.
pub head_whole : (text : List ℕ) → position (is_mark equals) text ≡ None → text ≡ head_of text
head_whole text none = sym (take_all (before equals text + 1) text (omega (arith, no_place equals text none))) ∙ head_is text

-- For `first_line` (src/known.rt), where a line ends.
pub line_at : (text : List ℕ) (i : ℕ) → position (is_mark newline) text ≡ Some i → take i text ≡ first_line text
line_at text i is = sym (ap (λ n. take n text) (place_is newline text i is))

-- For `first_line`, where none does.
pub line_whole : (text : List ℕ) → position (is_mark newline) text ≡ None → text ≡ first_line text
line_whole text none = sym (take_all (before newline text) text (no_place newline text none))
