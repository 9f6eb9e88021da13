use Rattle.drv_check.specs.Checks.{all_called, is_full, most_faults, unchecked_over}
use Rattle.drv_check.specs.declared.findings.Source.{Source}
use Rattle.drv_check.specs.declared.findings.Spot.{Spot}
use Rattle.drv_check.specs.declared.known_names.Names.TheVariants.{Driver}
use Rattle.drv_search.specs.Search.{prefixes_of}
use Rattle.drv_search.specs.declared.prefixes.Prefixes.{Prefixes}
use Rattle.drv_specs.specs.Builtin.{builtin_specs}
use Rattle.drv_system.specs.Facts.{Facts}
use Rattle.drv_system.specs.Known.{◌>>=◌, Is, Known}
use Rattle.std.specs.Prelude.{◌-◌, ◌==◌, ◌&&◌, Bool, List, [], ◌∷◌, None, Option, Some, false, if◌then◌else◌, length, nat_lt, slice_get}
use Rattle.std.specs.Prelude.{true, ℕ}

-- The files of a line, and the bytes that they have at places (GCC manual, "Spec Files").
-- For clauses of src/origins.rt and src/checking.rt, and the law of spots in src/laws.rt.

-- the files of a line and those that they include, found along prefixes, in the order in which they were opened, up to `most_faults` faults
abbrev pub sources_found : Facts → Prefixes → List (List ℕ) → Known (List Source)
sources_found F prefixes names =
    all_called F prefixes (is_full most_faults) (unchecked_over Driver builtin_specs) names >>= λ c. Is c.sources

-- the files of a line and those that they include, found along the line's folders and the usual ones
abbrev pub sources_of : Facts → List (List ℕ) → List (List ℕ) → Known (List Source)
sources_of F prefixes names = prefixes_of F prefixes >>= λ found. sources_found F found names

-- the byte of a file at a place, if it has one there
abbrev pub source_byte : Option Source → ℕ → Option ℕ
source_byte None at = None
source_byte (Some source) at = slice_get source.text at

-- the byte at a spot, if there is one
abbrev pub byte_at : List Source → Spot → Option ℕ
byte_at sources spot = source_byte (slice_get sources spot.source) spot.at

-- whether a byte is there and is this one
abbrev pub is_byte : Option ℕ → ℕ → Bool
is_byte None b = false
is_byte (Some other) b = other == b

-- whether files have these bytes at these spots, one after another
abbrev pub agree : List Source → List Spot → List ℕ → Bool
agree sources [] text = true
agree sources (spot ∷ spots) [] = false
agree sources (spot ∷ spots) (b ∷ text) = is_byte (byte_at sources spot) b && agree sources spots text

-- the spot of the byte at this place of a text of this size
abbrev pub spot_at : List Spot → ℕ → ℕ → Option Spot
spot_at spots size n = if nat_lt n (size - length spots) then None else slice_get spots (n - (size - length spots))
