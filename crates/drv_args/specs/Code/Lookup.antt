use Rattle.drv_args.specs.Options.{OptionRow}
use Rattle.std.specs.Prelude.{◌==◌, Bool, List, ◌∷◌, if◌then◌else◌, nat_lt, true, ℕ}

-- How the code looks up a row. Only private clauses cite it: `first_row` defines which row counts.

-- the number of the part of the table that has the rows of a second byte: 87 is the byte `W`, and 91 the one after `Z`
abbrev pub part_of : ℕ → ℕ
part_of letter = if letter == 87 then 0 else if nat_lt letter 91 then 1 else 2

-- whether the second byte of an option is of this part
abbrev pub may_be_in : ℕ → List ℕ → Bool
may_be_in part (dash ∷ b ∷ option) = part_of b == part
may_be_in part _ = true

-- whether a row is in this part of the table
abbrev pub is_in : ℕ → OptionRow → Bool
is_in part r = may_be_in part r.option
