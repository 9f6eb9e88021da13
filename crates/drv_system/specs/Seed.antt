use Rattle.hex.specs.Hex.{decode_sized}
use Rattle.hex.specs.declared.error.FromHexError.{FromHexError}
use Rattle.std.specs.Int.{from_be_bytes, w32}
use Rattle.std.specs.Prelude.{Err, List, None, Ok, Option, Result, Some, ℕ}

-- A number written in eight hexadecimal digits of either case (this project's profile).

-- the number of four bytes, the highest first
abbrev pub number_of : Result (List ℕ) FromHexError → Option ℕ
number_of (Ok bytes) = Some (from_be_bytes w32 bytes)
number_of (Err e) = None

-- the value of eight digits; None of any other text
abbrev pub seed_named : List ℕ → Option ℕ
seed_named text = number_of (decode_sized text 4)
