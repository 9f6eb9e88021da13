use Rattle.drv_check.specs.Points.{directive_in}
use Rattle.drv_check.specs.declared.pieces.Piece.{Piece}
use Rattle.drv_specs.specs.Directives.{Bad, Directive, Include, Pair, Rename, Text}
use Rattle.drv_specs.specs.Sets.{begins_with_at}
use Rattle.std.specs.Cmp.Lexicographic.{pointwise}
use Rattle.std.specs.List.{ends_with, list_any}
use Rattle.std.specs.Prelude.{◌&&◌, ◌||◌, Bool, List, None, Option, Some, false, nat_eq, not, ℕ}

-- A pair that is never used, since of those that fit a file or a language the last counts (this project's profile: last_text of drv_plan).
-- For clauses of src/hidden_pair.rt.

-- the key of a directive, if it is a pair, such as .c or @c
abbrev pub key_of : Option Directive → Option (List ℕ)
key_of None = None
key_of (Some (Text name body)) = None
key_of (Some (Pair key body)) = Some key
key_of (Some (Rename old new)) = None
key_of (Some (Include missing file)) = None
key_of (Some (Bad n)) = None

-- the key of a piece that is a pair
abbrev pub key_in : List ℕ → Option (List ℕ)
key_in text = key_of (directive_in text)

-- whether a later piece hides it

-- whether a suffix fits each name that another one fits: it ends that one. The key of a language is no suffix.
abbrev pub ends_key : List ℕ → List ℕ → Bool
ends_key key other = not (begins_with_at key) && (not (begins_with_at other) && ends_with nat_eq key other)

-- whether a key fits all that the first one fits, if it is there
abbrev pub covers_key : List ℕ → Option (List ℕ) → Bool
covers_key key None = false
covers_key key (Some other) = pointwise nat_eq key other || ends_key key other

-- whether a piece puts a pair that counts wherever one of this key would
abbrev pub hides_key : List ℕ → Piece → Bool
hides_key key piece = covers_key key (key_in piece.text)

-- whether one of these later pieces does: then the pair is never used
abbrev pub is_hidden : Option (List ℕ) → List Piece → Bool
is_hidden None later = false
is_hidden (Some key) later = list_any (hides_key key) later
