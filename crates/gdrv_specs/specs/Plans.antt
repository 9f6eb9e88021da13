use Rattle.drv_run.specs.declared.ending.Ending.TheVariants.{Done, OutOfMemory}
use Rattle.drv_run.specs.declared.work.Work.TheVariants.{CarryOut, Dump, Show}
use Rattle.drv_run.specs.declared.work.Work.{Work}
use Rattle.drv_system.specs.declared.event.Event.{Event}
use Rattle.drv_words.specs.declared.plan.Plan.{Plan}
use Rattle.gdrv_specs.specs.Forms.{form_text}
use Rattle.gdrv_specs.specs.Told.{Puts, Tells}
use Rattle.gdrv_specs.specs.declared.forms.Form.{Form}
use Rattle.gdrv_specs.specs.declared.outcome.Outcome.TheVariants.{Ended, NoPlan}
use Rattle.gdrv_specs.specs.declared.outcome.Outcome.{Outcome}
use Rattle.std.specs.Prelude.{◌≡◌, List, [], None, Option, Some, ℕ}

-- What telling the plan of a line is (GCC manual, "Overall Options", -###).
-- For clauses of src/planning.rt.

-- the plan of a work; a dump of the specs has none
abbrev pub plan_in : Work → Option Plan
plan_in (Dump text) = None
plan_in (Show plan) = Some plan
plan_in (CarryOut plan manner) = Some plan

-- what is printed of a work, by how that ended: its plan, once; where memory lacked nothing was done
abbrev pub TellsOf : Form → Work → Outcome → List Event → Type 0
TellsOf form work (Ended (Done status)) told = (plan : Plan) × (plan_in work ≡ Some plan) × Puts (form_text form plan) status told
TellsOf form work (Ended OutOfMemory) told = told ≡ []
TellsOf form work NoPlan told = (plan_in work ≡ None) × (told ≡ [])
TellsOf form work outcome told = ⊥

-- a call that tells the plan of a line
abbrev pub TellsPlan : List Event → List Event → Form → List (List ℕ) → ℕ → Outcome → Type 0
TellsPlan journal journal' form line seed outcome = Tells (TellsOf form) journal journal' line seed outcome
