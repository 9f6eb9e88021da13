use Rattle.drv_cc.specs.Table.{OptionRow}
use Rattle.std.specs.List.{list_all}
use Rattle.std.specs.Prelude.{◌==◌, ◌&&◌, ◌||◌, ◌-◌, Bool, List, get_or, if◌then◌else◌, length, nat_lt, ℕ}

-- How the code looks up a row of the option table: among the rows that have the second byte of the word. Only private clauses of
-- src/table.rt and others cite it.

-- the second byte of a word, or 0: the letter after the hyphen
abbrev pub second : List ℕ → ℕ
second word = get_or word 1 0

-- the last byte of a word, or 0
abbrev pub last_byte : List ℕ → ℕ
last_byte word = get_or word (length word - 1) 0

-- the part of the table that has the rows of a second byte
abbrev pub part_of : ℕ → ℕ
part_of b =
    if b == 45 then 0 else if b == 87 then 1 else if b == 102 then 2 else if b == 103 || b == 109 then 3
    else if nat_lt b 91 then 4 else if nat_lt b 112 then 5 else 6

-- whether rows are those of a part: their options have two bytes and more
abbrev pub are_of : ℕ → List OptionRow → Bool
are_of part rows = list_all (λ r. nat_lt 1 (length r.option) && part_of (second r.option) == part) rows
