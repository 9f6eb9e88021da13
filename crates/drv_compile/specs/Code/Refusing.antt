use Rattle.drv_compile.specs.Words.{told_refusal}
use Rattle.drv_run.specs.declared.ending.Ending.TheVariants.{Done, OutOfMemory, Refused}
use Rattle.drv_run.specs.declared.ending.Ending.{Ending}
use Rattle.std.specs.Prelude.{◌≡◌, List, ℕ}

-- What is said of a line that ends so. Only a private clause of src/refusing.rt cites it. `name` is that of the program.

-- a line ends by a refusal, and this text says it
abbrev pub IsEndSaid : List ℕ → Ending → List ℕ → Type 0
IsEndSaid name (Refused refusal) text = text ≡ told_refusal name refusal
IsEndSaid name (Done status) text = ⊥
IsEndSaid name OutOfMemory text = ⊥
