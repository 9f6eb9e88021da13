use Rattle.drv_compile.specs.Compiles.{Closes, Opens, closing, lacks_program, settings}
use Rattle.drv_compile.specs.declared.compiling.Outcome.TheVariants.{Done, OutOfMemory, Unnoted}
use Rattle.drv_compile.specs.declared.compiling.Outcome.{Outcome}
use Rattle.drv_compile.specs.declared.host.HostEvent.{HostEvent}
use Rattle.drv_compile.specs.declared.preparing.Prepared.{Prepared}
use Rattle.drv_compile.specs.declared.stop.Stop.TheVariants.{Memory, Told, Undone}
use Rattle.drv_compile.specs.declared.stop.Stop.{Stop}
use Rattle.drv_run.specs.Calls.{Does, OnlySays}
use Rattle.drv_system.specs.declared.event.Event.TheVariants.{Say}
use Rattle.drv_system.specs.declared.event.Event.{Event}
use Rattle.drv_system.specs.declared.event.TellAnswer.{TellAnswer}
use Rattle.std.specs.Prelude.{◌≡◌, List, [], ◌∷◌, ◌++◌, drop, length, ℕ}

-- What a call does after its questions, of two journals. Only private clauses of src/compiling.rt cite it.
-- Names: `journal` is the events of the system before, and `journal'` after. `text` is what is said after a work, and `said` before it.
-- `prepared` is what the call has to do. `status` is the work's exit status. `outcome` is how the call ends. `events` is what the host was
-- asked. `noted`, `did` and `opened` are events that were added. `Closes`, `Opens` and `settings` are in specs/Compiles. `OnlySays` is
-- drv_run's: nothing but texts was said.

-- a text is said after a work
abbrev pub IsClosed : List Event → List Event → List ℕ → ℕ → Outcome → Type 0
IsClosed journal journal' text status outcome = (noted : List Event) × (journal' ≡ journal ++ noted) × Closes status text outcome noted

-- the hint or the remark is said by what was done after so many events
abbrev pub Noting : List Event → List Event → ℕ → Prepared → ℕ → Outcome → Type 0
Noting journal journal' before prepared status outcome =
    IsClosed journal journal' (closing prepared (lacks_program prepared (drop before journal))) status outcome

-- a work was done, and the hint or the remark said by it
pub record DoesNoted (name : List ℕ) (journal journal' : List Event) (prepared : Prepared) (outcome : Outcome) : Type 0 where
  pub did : List Event
  pub noted : List Event
  pub status : ℕ
  pub journal_grows : journal' ≡ journal ++ did ++ noted
  pub does : Does name prepared.work status did
  pub told : Closes status (closing prepared (lacks_program prepared did)) outcome noted

-- a work was done and ended, or memory lacked and nothing but texts was said
abbrev pub Worked : List ℕ → List Event → List Event → Prepared → Outcome → Type 0
Worked name journal journal' prepared OutOfMemory = OnlySays journal journal'
Worked name journal journal' prepared outcome = DoesNoted name journal journal' prepared outcome

-- a text was said first
abbrev pub IsOpened : List Event → List Event → List ℕ → Type 0
IsOpened journal journal' said = (opened : List Event) × Opens said opened × (journal' ≡ journal ++ opened)

-- a text was said first, if there is one; then a work was done, and the hint or the remark said
abbrev pub OpensWork : List ℕ → List Event → List Event → Prepared → Outcome → Type 0
OpensWork name journal journal' prepared outcome =
    (opened : List Event) × Opens prepared.said opened × DoesNoted name (journal ++ opened) journal' prepared outcome

-- a call said its first text and did its work, or memory lacked and nothing but texts was said
abbrev pub Spoken : List ℕ → List Event → List Event → Prepared → Outcome → Type 0
Spoken name journal journal' prepared OutOfMemory = OnlySays journal journal'
Spoken name journal journal' prepared outcome = OpensWork name journal journal' prepared outcome

-- the variables of the children were set before all that, or memory lacked
abbrev pub Carried : List ℕ → List Event → List Event → Prepared → List HostEvent → Outcome → Type 0
Carried name journal journal' prepared events OutOfMemory = OnlySays journal journal'
Carried name journal journal' prepared events outcome =
    (events ≡ settings (length journal) prepared.children) × OpensWork name journal journal' prepared outcome

-- a refusal is said
abbrev pub TellsText : List Event → List Event → List ℕ → Outcome → Type 0
TellsText journal journal' text OutOfMemory = journal' ≡ journal
TellsText journal journal' text (Unnoted status) = ⊥
TellsText journal journal' text (Done status) = (told : TellAnswer) × (status ≡ 1) × (journal' ≡ journal ++ Say text told ∷ [])

-- why a call ends is said
abbrev pub TellsStop : List Event → List Event → Stop → Outcome → Type 0
TellsStop journal journal' stop OutOfMemory = journal' ≡ journal
TellsStop journal journal' stop (Unnoted status) = ⊥
TellsStop journal journal' Memory (Done status) = ⊥
TellsStop journal journal' (Told text) (Done status) = TellsText journal journal' text (Done status)
TellsStop journal journal' (Undone text line) (Done status) = TellsText journal journal' text (Done status)
