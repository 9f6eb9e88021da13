use Rattle.std.specs.Char.{is_ascii_digit}
use Rattle.std.specs.Cmp.Lexicographic.{slice_cmp}
use Rattle.std.specs.List.{fold, list_all, slice_split}
use Rattle.std.specs.Ordering.{nat_cmp}
use Rattle.std.specs.declared.cmp.Ordering.{Ordering}
use Rattle.std.specs.Prelude.{◌&&◌, ◌*◌, ◌+◌, ◌-◌, ◌==◌, Bool, List, None, Option, Some, if◌then◌else◌, length, map, nat_le, ℕ}
use Rattle.std.specs.Str.{byte}

-- Versions: 1 to 32 parts of 1 to 9 digits, separated by dots (GCC manual, "Spec Files", `version-compare`; the limits are this project's
-- profile).

-- the parts of a text between its dots
abbrev pub parts : List ℕ → List (List ℕ)
parts text = slice_split (λ b. b == byte ".") text

-- whether digits are a part: 1 to 9 of them
abbrev pub is_part : List ℕ → Bool
is_part part = nat_le 1 (length part) && nat_le (length part) 9 && list_all is_ascii_digit part

-- the decimal number of these digits
abbrev pub number : List ℕ → ℕ
number digits = fold (λ n digit. n * 10 + (digit - byte "0")) 0 digits

-- the numbers of a version; None for another text
abbrev pub version : List ℕ → Option (List ℕ)
version text = if nat_le (length (parts text)) 32 && list_all is_part (parts text) then Some (map number (parts text)) else None

-- the order of two versions: part by part as numbers, and a version is earlier than any that continues it
abbrev pub order : List ℕ → List ℕ → Ordering
order = slice_cmp nat_cmp

-- the order of two texts, if both are versions
abbrev pub compared : Option (List ℕ) → Option (List ℕ) → Option Ordering
compared (Some one) (Some other) = Some (order one other)
compared one other = None
