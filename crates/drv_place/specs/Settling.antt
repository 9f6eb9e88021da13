use Rattle.drv_words.specs.Bytes.{backslash, carriage_return, newline}
use Rattle.std.specs.List.{ends_with}
use Rattle.std.specs.Prelude.{◌+◌, ◌-◌, ◌&&◌, ◌==◌, List, [], ◌∷◌, ◌++◌, if◌then◌else◌, length, nat_eq, take, ℕ}

-- Where in a spec file's text the bytes are that are left of it (GCC manual, "Spec Files"; what is removed is this project's profile).

-- what is left of a text's first bytes, and the place of each of these
pub record Marked : Type 0 where
  pub bytes : List ℕ
  pub places : List ℕ

-- no byte so far
abbrev pub nothing : Marked
nothing = record { bytes = []; places = [] }

-- the bytes so far without the last one
abbrev pub shorter : Marked → Marked
shorter m = record { bytes = take (length m.bytes - 1) m.bytes; places = take (length m.places - 1) m.places }

-- one more byte, at this place: a carriage return goes; a newline after a backslash goes, and takes the backslash with it
abbrev pub marked_onto : Marked → ℕ → ℕ → Marked
marked_onto m n b =
    if b == carriage_return then m
    else if b == newline && ends_with nat_eq m.bytes (backslash ∷ []) then shorter m
    else record { bytes = m.bytes ++ b ∷ []; places = m.places ++ n ∷ [] }

-- more bytes, the first of which is at this place
abbrev pub marked_from : Marked → ℕ → List ℕ → Marked
marked_from m n [] = m
marked_from m n (b ∷ text) = marked_from (marked_onto m n b) (n + 1) text

-- the places of all bytes that are left of a text
abbrev pub places_of : List ℕ → List ℕ
places_of text = (marked_from nothing 0 text).places
