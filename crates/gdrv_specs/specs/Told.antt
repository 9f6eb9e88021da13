use Rattle.drv_run.specs.Drives.{Drives, Refuses}
use Rattle.drv_run.specs.declared.ending.Ending.TheVariants.{OutOfMemory, Refused}
use Rattle.drv_run.specs.declared.work.Work.{Work}
use Rattle.drv_system.specs.Asking.{AreNew}
use Rattle.drv_system.specs.Facts.{Facts, learn, no_facts}
use Rattle.drv_system.specs.declared.event.Event.TheVariants.{Put}
use Rattle.drv_system.specs.declared.event.Event.{Event}
use Rattle.drv_system.specs.declared.event.TellAnswer.TheVariants.{Failed, Told}
use Rattle.drv_system.specs.declared.event.TellAnswer.{TellAnswer}
use Rattle.gdrv_specs.specs.declared.outcome.Outcome.TheVariants.{Ended}
use Rattle.gdrv_specs.specs.declared.outcome.Outcome.{Outcome}
use Rattle.std.specs.Prelude.{◌≡◌, ◌⊎◌, List, [], ◌∷◌, ◌++◌, ℕ}

-- What telling something of a line is: questions, and then one text at most (this project's profile).
-- For clauses of src/planning.rt.

-- the exit status of a call whose text was written, or couldn't be
abbrev pub status_told : TellAnswer → ℕ
status_told Told = 0
status_told Failed = 2

-- a text was written to standard output once, and nothing else was done
abbrev pub Puts : List ℕ → ℕ → List Event → Type 0
Puts text status told = (answer : TellAnswer) × (told ≡ Put text answer ∷ []) × (status ≡ status_told answer)

-- a text was written once and nothing else was done, of two journals
abbrev pub PutsText : List Event → List Event → List ℕ → ℕ → Type 0
PutsText journal journal' text status = (told : List Event) × (journal' ≡ journal ++ told) × Puts text status told

-- what is printed of a work, by how that ended
abbrev pub Telling : Type 1
Telling = Work → Outcome → List Event → Type 0

-- a work was printed so, of two journals
abbrev pub TellsWork : Telling → List Event → List Event → Work → Outcome → Type 0
TellsWork T journal journal' work outcome = (told : List Event) × (journal' ≡ journal ++ told) × T work outcome told

-- a line that has no work: it is refused, or memory lacked; nothing was done
abbrev pub Stops : Facts → List (List ℕ) → ℕ → Outcome → List Event → Type 0
Stops F line seed (Ended (Refused refusal)) told = Refuses F line seed refusal × (told ≡ [])
Stops F line seed (Ended OutOfMemory) told = told ≡ []
Stops F line seed outcome told = ⊥

-- what follows the questions of a call, by how it ended: the work of the line is printed so, or it has none
abbrev pub Ends : Telling → Facts → List (List ℕ) → ℕ → Outcome → List Event → Type 0
Ends T F line seed outcome told = Stops F line seed outcome told ⊎ ((work : Work) × Drives F line seed work × T work outcome told)

-- A call that tells something of a line: it asked what it did not know, and its ending is that of the answers to these questions alone.
pub record Tells (T : Telling) (journal journal' : List Event) (line : List (List ℕ)) (seed : ℕ) (outcome : Outcome) : Type 0 where
  pub asked : List Event
  pub told : List Event
  pub questions : AreNew no_facts asked
  pub journal_grows : journal' ≡ journal ++ asked ++ told
  pub ends : Ends T (learn no_facts asked) line seed outcome told
