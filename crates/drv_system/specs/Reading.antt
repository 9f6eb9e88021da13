use Rattle.drv_system.specs.Limit.{is_too_large}
use Rattle.drv_system.specs.declared.event.ReadAnswer.{ReadAnswer}
use Rattle.drv_system.specs.declared.event.ReadAnswer.TheVariants.{Read, Missing, Failed, TooLarge}
use Rattle.drv_system.specs.declared.reading.ReadFault.{ReadFault}
use Rattle.drv_system.specs.declared.reading.ReadFault.TheVariants as fault
use Rattle.std.specs.Prelude.{◌≡◌, ◌⊎◌, Bool, Err, List, None, Ok, Option, Result, Some, false, true, ℕ, ⊤}

-- How an open file is read to its end (this project's profile). For a path, the host's contract promises only that the journal holds the
-- answer, and that no answer is longer than a file may be.

-- what an answer says about a reader that has these bytes left, if they are known
abbrev pub ReadsAs : Option (List ℕ) → ReadAnswer → Type 0
ReadsAs None answer = ⊤
ReadsAs (Some left) (Read bytes) = bytes ≡ left
ReadsAs (Some left) TooLarge = is_too_large left ≡ true
ReadsAs (Some left) Failed = ⊤
ReadsAs (Some left) Missing = ⊥

-- reading stops early only after a failed read, or after the most reads
abbrev pub GivesUp : ℕ → ℕ → Bool → ReadAnswer → Type 0
GivesUp most reads failed Failed = (failed ≡ true) ⊎ (reads ≡ most)
GivesUp most reads failed answer = ⊤

-- a failed read; an interrupted one is repeated
abbrev pub is_failure : {Y : Type 0} → Result Y ReadFault → Bool
is_failure (Ok y) = false
is_failure (Err fault.Interrupted) = false
is_failure (Err fault.Failed) = true
