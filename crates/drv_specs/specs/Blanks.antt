use Rattle.drv_words.specs.Bytes.{newline, space, tab}
use Rattle.std.specs.Prelude.{◌==◌, ◌||◌, Bool, List, [], ◌∷◌, false, true, ℕ}

-- Blanks and white space of spec files (this project's profile).

-- whether a byte is a space or a tab
abbrev pub is_blank : ℕ → Bool
is_blank b = b == space || b == tab

-- whether a byte is a blank or a newline
abbrev pub is_white : ℕ → Bool
is_white b = is_blank b || b == newline

-- whether a text is not empty
abbrev pub has_byte : List ℕ → Bool
has_byte [] = false
has_byte (b ∷ text) = true
