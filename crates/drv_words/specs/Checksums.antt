use Rattle.std.specs.Prelude.{◌%◌, ◌*◌, ◌^◌, List, bit_xor, fold, ℕ}

-- The sum of a text, FNV-1a of 64 bits (G. Fowler, L. C. Noll, K.-P. Vo, "The FNV Non-Cryptographic Hash Algorithm").
-- For clauses of src/sums.rt.

-- the turn of one byte
abbrev pub turn : ℕ → ℕ → ℕ
turn sum b = (bit_xor sum b * 0x100000001b3) % 2 ^ 64

-- the sum of a text, from the offset basis on
abbrev pub checksum : List ℕ → ℕ
checksum text = fold turn 0xcbf29ce484222325 text
