use Rattle.drv_syntax.specs.Bytes.{is_white}
use Rattle.std.specs.List.{prefix_len}
use Rattle.std.specs.Prelude.{◌+◌, ◌==◌, Bool, false, if◌then◌else◌, List, [], ◌∷◌, None, Option, Some, drop, ℕ}

-- What is left of a text that is being read. The functions of Descent go from one such rest to the next, as the code does
-- (src/descent/rest.rt).

-- what is left of a text, and where it begins in the whole text
pub record Left : Type 0 where
  pub at : ℕ  -- the place of its first byte
  pub bytes : List ℕ

-- what is left so many bytes on
abbrev pub after : ℕ → Left → Left
after size rest = record { at = rest.at + size; bytes = drop size rest.bytes }

-- the byte that comes next, if there is one
abbrev pub first_of : List ℕ → Option ℕ
first_of [] = None
first_of (b ∷ text) = Some b

-- the byte after the one that comes next, if there is one
abbrev pub second_of : List ℕ → Option ℕ
second_of [] = None
second_of (b ∷ text) = first_of text

-- the text begins with this byte
abbrev pub begins_with : ℕ → List ℕ → Bool
begins_with b [] = false
begins_with b (c ∷ text) = c == b

-- what is left without this byte, if it comes next
abbrev pub past_byte : ℕ → Left → Left
past_byte b rest = if begins_with b rest.bytes then after 1 rest else rest

-- what is left without the white space that comes next
abbrev pub past_white : Left → Left
past_white rest = after (prefix_len is_white rest.bytes) rest

-- by the byte that comes next, which is still left; or, where the text ends, the first
abbrev pub by_byte : {X : Type 0} → Option ℕ → X → (ℕ → X) → X
by_byte None ends goes = ends
by_byte (Some b) ends goes = goes b
