use Rattle.drv_system.specs.declared.event.ReadAnswer.{ReadAnswer}
use Rattle.drv_system.specs.declared.event.ReadAnswer.TheVariants.{Read}
use Rattle.std.specs.Prelude.{◌≡◌, Bool, List, false, length, nat_lt, ℕ, ⊤}

-- The most bytes that a file may have, and the most reads for one file (this project's profile).

-- the most bytes of a file: 16 MiB
abbrev pub most_bytes : ℕ
most_bytes = 16777216

-- whether a file has more bytes than it may have
abbrev pub is_too_large : List ℕ → Bool
is_too_large bytes = nat_lt most_bytes (length bytes)

-- the most reads for one file
abbrev pub most_reads : ℕ
most_reads = 33554432

-- an answer is at most as long as a file may be
abbrev pub IsWithinLimit : ReadAnswer → Type 0
IsWithinLimit (Read bytes) = is_too_large bytes ≡ false
IsWithinLimit answer = ⊤
