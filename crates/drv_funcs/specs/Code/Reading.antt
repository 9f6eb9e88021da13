use Rattle.std.specs.Char.{is_ascii_digit}
use Rattle.std.specs.Prelude.{◌&&◌, ◌*◌, ◌+◌, ◌-◌, ◌==◌, List, [], ◌∷◌, ◌++◌, None, Option, Some, if◌then◌else◌, length, nat_lt, ℕ}
use Rattle.std.specs.Str.{byte}

-- How the code reads a version byte by byte: the numbers so far, and the number and the count of digits of the open part. Only private
-- clauses cite it.
abbrev pub read_on : List ℕ → ℕ → ℕ → List ℕ → Option (List ℕ)
read_on numbers number digits [] = if nat_lt 0 digits && nat_lt (length numbers) 32 then Some (numbers ++ number ∷ []) else None
read_on numbers number digits (b ∷ text) =
    if is_ascii_digit b && nat_lt digits 9 then read_on numbers (number * 10 + (b - byte "0")) (digits + 1) text
    else if b == byte "." && nat_lt 0 digits && nat_lt (length numbers) 32 then read_on (numbers ++ number ∷ []) 0 0 text
    else None
