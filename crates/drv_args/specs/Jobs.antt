use Rattle.drv_words.specs.Bytes.{equals}
use Rattle.std.specs.Option.{option_and_then}
use Rattle.std.specs.Prelude.{◌+◌, ◌*◌, ◌-◌, ◌&&◌, ◌==◌, Bool, List, [], ◌∷◌, None, Option, Some, if◌then◌else◌, nat_le, ℕ}

-- How many sources may be under way at once: a number from 1 to 64, in decimal digits without a leading zero (this project's profile).

-- the byte 0
abbrev pub digit_zero : ℕ
digit_zero = 48

-- whether a number is between two others, or one of them
abbrev pub is_within : ℕ → ℕ → ℕ → Bool
is_within low high n = nat_le low n && nat_le n high

-- the value of a decimal digit
abbrev pub digit_of : ℕ → Option ℕ
digit_of b = if is_within digit_zero (digit_zero + 9) b then Some (b - digit_zero) else None

-- the first digit of a number of two digits
abbrev pub tens_of : ℕ → Option ℕ
tens_of b = if is_within (digit_zero + 1) (digit_zero + 9) b then Some (b - digit_zero) else None

-- a number with one more digit
abbrev pub joined : Option ℕ → Option ℕ → Option ℕ
joined None low = None
joined (Some high) None = None
joined (Some high) (Some low) = Some (high * 10 + low)

-- the number of one or two digits; longer numbers are too great
abbrev pub number_of : List ℕ → Option ℕ
number_of (a ∷ []) = digit_of a
number_of (a ∷ b ∷ []) = joined (tens_of a) (digit_of b)
number_of digits = None

-- the greatest number of jobs
abbrev pub most_jobs : ℕ
most_jobs = 64

-- a number from 1 to the greatest
abbrev pub in_range : ℕ → Option ℕ
in_range n = if is_within 1 most_jobs n then Some n else None

-- the number after --jobs, if an equals sign and digits follow
abbrev pub jobs_named : List ℕ → Option ℕ
jobs_named [] = None
jobs_named (b ∷ digits) = if b == equals then option_and_then in_range (number_of digits) else None
