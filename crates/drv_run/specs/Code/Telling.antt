use Rattle.drv_run.specs.Calls.{Announces, DoesWork, OnlySays, Says, Shows}
use Rattle.drv_run.specs.declared.ending.Ending.TheVariants.{Done, OutOfMemory, Refused}
use Rattle.drv_run.specs.declared.ending.Ending.{Ending}
use Rattle.drv_run.specs.declared.work.Telling.{Telling}
use Rattle.drv_run.specs.declared.work.Work.{Work}
use Rattle.drv_system.specs.declared.event.Event.{Event}
use Rattle.drv_words.specs.declared.plan.Plan.{Plan}
use Rattle.std.specs.Prelude.{◌≡◌, List, ◌++◌, codes, ℕ}

-- The same of two journals, the one after the other. Only private clauses cite it.
-- Names: `journal` is the events of the system before, and `journal'` after. `said` is those that were added. `status` is the exit status.
-- `Says`, `Shows`, `Announces` and `OnlySays` say which events these are. `DoesWork` is a work that was done (specs/Calls).

-- between two journals a text was said, and nothing else
abbrev pub SaysText : List Event → List Event → List ℕ → ℕ → Type 0
SaysText journal journal' text status = (said : List Event) × (journal' ≡ journal ++ said) × Says text status said

-- between two journals a plan was shown, and nothing else
abbrev pub ShowsPlan : List ℕ → List Event → List Event → Plan → ℕ → Type 0
ShowsPlan name journal journal' plan status = (said : List Event) × (journal' ≡ journal ++ said) × Shows name plan status said

-- what the journal has after the plan was announced
abbrev pub AnnouncesPlan : List ℕ → List Event → List Event → Telling → Plan → Type 0
AnnouncesPlan name journal journal' telling plan = (said : List Event) × (journal' ≡ journal ++ said) × Announces name telling plan said

-- a call that does this work ends so
abbrev pub EndsWork : List Event → List Event → Work → Ending → Type 0
EndsWork journal journal' work (Done status) = DoesWork (codes "gdrv") journal journal' work status
EndsWork journal journal' work (Refused refusal) = ⊥
EndsWork journal journal' work OutOfMemory = OnlySays journal journal'
