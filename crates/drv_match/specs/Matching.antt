use Rattle.drv_match.specs.Pattern.{Pattern}
use Rattle.std.specs.Cmp.Lexicographic.{pointwise}
use Rattle.std.specs.List.{filter, list_any, range_with_len, starts_with}
use Rattle.std.specs.Prelude.{◌≡◌, ◌≤◌, ◌<◌, ◌&&◌, ◌+◌, ◌++◌, ◌==◌, ◌||◌, Bool, List, [], ◌∷◌, None, Option, Some, codes, drop, false}
use Rattle.std.specs.Prelude.{get_or, if◌then◌else◌, length, nat_eq, nat_le, not, true, ℕ}
use Rattle.std.specs.Str.{byte}

-- Which switches of a command line are live, and which of these a pattern hits. A line is the list of its switches' names, each without its
-- first `-`. Places count from 0.

-- an optimization level, whose name begins with `O`; the last one counts (GCC manual, "Optimize Options")
abbrev pub is_level : List ℕ → Bool
is_level [] = false
is_level (letter ∷ rest) = letter == byte "O"

-- a name that has a negative form: it begins with f, m or W (GCC manual, "Invoking GCC")
abbrev pub has_negative : List ℕ → Bool
has_negative [] = false
has_negative (letter ∷ rest) = letter == byte "f" || letter == byte "m" || letter == byte "W"

-- the negative form: `no-` after the first letter (GCC manual, "Invoking GCC")
abbrev pub negative : List ℕ → List ℕ
negative [] = []
negative (letter ∷ rest) = letter ∷ codes "no-" ++ rest

-- the first name is the negative form of the second
abbrev pub is_negative_of : List ℕ → List ℕ → Bool
is_negative_of other name = has_negative name && pointwise nat_eq (negative name) other

-- a later switch cancels an earlier one if both are levels, or if one is the negative form of the other (this project's profile)
abbrev pub cancels : List ℕ → List ℕ → Bool
cancels later name = is_level later && is_level name || is_negative_of later name || is_negative_of name later

-- the name at a place
abbrev pub name_at : List (List ℕ) → ℕ → List ℕ
name_at names i = get_or names i []

-- no later switch cancels the one at this place
abbrev pub is_live : List (List ℕ) → ℕ → Bool
is_live names i = not (list_any (λ later. cancels later (name_at names i)) (drop (i + 1) names))

-- a pattern names a switch: it has the switch's name or, with a star, the beginning of that name (GCC manual, "Spec Files")
abbrev pub is_named : Pattern → List ℕ → Bool
is_named pattern name = if pattern.star then starts_with nat_eq name pattern.name else pointwise nat_eq name pattern.name

-- a starred pattern of at most one byte also hits cancelled switches (this project's profile)
abbrev pub is_broad : Pattern → Bool
is_broad pattern = pattern.star && nat_le (length pattern.name) 1

-- the switch at a place is hit: it isn't hidden, the pattern names it, and it is live or the pattern is broad
abbrev pub is_hit : List (List ℕ) → List Bool → Pattern → ℕ → Bool
is_hit names hidden pattern i =
    not (get_or hidden i false) && is_named pattern (name_at names i) && (is_broad pattern || is_live names i)

-- the places that a pattern hits, in order
abbrev pub hits : List (List ℕ) → List Bool → Pattern → List ℕ
hits names hidden pattern = filter (is_hit names hidden pattern) (range_with_len 0 (length names))

-- the switch at a place is hit by one of these patterns
abbrev pub is_any_hit : List (List ℕ) → List Bool → List Pattern → ℕ → Bool
is_any_hit names hidden patterns i = list_any (λ pattern. is_hit names hidden pattern i) patterns

-- the places that one of these patterns hits, in order
abbrev pub any_hits : List (List ℕ) → List Bool → List Pattern → List ℕ
any_hits names hidden patterns = filter (is_any_hit names hidden patterns) (range_with_len 0 (length names))

-- the first place of a hit, from one place on, if there is one
abbrev pub IsNextHit : List (List ℕ) → List Bool → Pattern → ℕ → Option ℕ → Type 0
IsNextHit names hidden pattern from None = (i : ℕ) → from ≤ i → i < length names → is_hit names hidden pattern i ≡ false
IsNextHit names hidden pattern from (Some next) =
    (from ≤ next) × (next < length names) × (is_hit names hidden pattern next ≡ true) × ((i : ℕ) → from ≤ i → i < next
    → is_hit names hidden pattern i ≡ false)

-- the hidden switches after a pattern is hidden too (GCC manual, "Spec Files", `%<S`)
abbrev pub hidden_by : Pattern → List (List ℕ) → List Bool → List Bool
hidden_by pattern (name ∷ names) (hidden ∷ others) = (hidden || is_named pattern name) ∷ hidden_by pattern names others
hidden_by pattern _ hidden = hidden
