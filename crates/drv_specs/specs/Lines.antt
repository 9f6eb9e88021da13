use Rattle.drv_specs.specs.Blanks.{has_byte, is_blank}
use Rattle.drv_words.specs.Bytes.{backslash, carriage_return, newline}
use Rattle.std.specs.List.{ends_with, list_all}
use Rattle.std.specs.Prelude.{◌-◌, ◌==◌, ◌&&◌, Bool, List, [], ◌∷◌, ◌++◌, filter, fold, if◌then◌else◌, length, nat_eq, not, reverse, take}
use Rattle.std.specs.Prelude.{ℕ}

-- The lines of a spec file's text (GCC manual, "Spec Files"; what is removed is this project's profile).

-- a text and one more byte after it: a newline after a backslash goes, and takes the backslash with it
abbrev pub joined_onto : List ℕ → ℕ → List ℕ
joined_onto text b = if b == newline && ends_with nat_eq text (backslash ∷ []) then take (length text - 1) text else text ++ b ∷ []

-- a text without pairs of a backslash and a newline: each is removed, until none is left
abbrev pub joined : List ℕ → List ℕ
joined text = fold joined_onto [] text

-- carriage returns go
abbrev pub is_kept : ℕ → Bool
is_kept b = not (b == carriage_return)

-- what is left of a file's text: carriage returns are dropped before that
abbrev pub settle : List ℕ → List ℕ
settle text = joined (filter is_kept text)

-- the pieces of a text between the bytes that pass the test, the first of which begins with a front
abbrev pub pieces_from : (ℕ → Bool) → List ℕ → List ℕ → List (List ℕ)
pieces_from cuts front [] = front ∷ []
pieces_from cuts front (b ∷ text) = if cuts b then front ∷ pieces_from cuts [] text else pieces_from cuts (front ++ b ∷ []) text

-- a newline ends a line
abbrev pub ends_line : ℕ → Bool
ends_line b = b == newline

-- the lines of a text, without their newlines
abbrev pub lines_of : List ℕ → List (List ℕ)
lines_of text = pieces_from ends_line [] text

-- a line's words, cut at blanks
abbrev pub words_of : List ℕ → List (List ℕ)
words_of line = filter has_byte (pieces_from is_blank [] line)

-- a line that is empty or has blanks alone
abbrev pub is_empty_line : List ℕ → Bool
is_empty_line line = list_all is_blank line

-- without the bytes at its front, or at its end, that pass the test
abbrev pub without_front : (ℕ → Bool) → List ℕ → List ℕ
without_front test [] = []
without_front test (b ∷ text) = if test b then without_front test text else b ∷ text

-- a text without the bytes at its end that pass a test
abbrev pub without_end : (ℕ → Bool) → List ℕ → List ℕ
without_end test text = reverse (without_front test (reverse text))

-- a text without the blanks at its front and end
abbrev pub trim : List ℕ → List ℕ
trim text = without_end is_blank (without_front is_blank text)
