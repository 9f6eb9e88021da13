use Rattle.drv_run.specs.declared.ending.Ending.TheVariants.{Done, OutOfMemory}
use Rattle.drv_run.specs.declared.work.Work.TheVariants.{Dump}
use Rattle.drv_run.specs.declared.work.Work.{Work}
use Rattle.drv_system.specs.declared.event.Event.{Event}
use Rattle.drv_words.specs.declared.plan.Plan.{Plan}
use Rattle.gdrv_specs.specs.Forms.{form_text}
use Rattle.gdrv_specs.specs.Plans.{TellsOf, plan_in}
use Rattle.gdrv_specs.specs.Told.{PutsText, TellsWork}
use Rattle.gdrv_specs.specs.declared.forms.Form.{Form}
use Rattle.gdrv_specs.specs.declared.outcome.Outcome.TheVariants.{Ended, NoPlan}
use Rattle.std.proofs.Common.{◌≡◌, ◌∙◌, List, [], Some, refl, sym, ℕ}
use Rattle.std.proofs.lemmas.List.{append-nil}

-- For `tell_driver_plan` (src/planning.rt): the call prints the plan of the line's work.
-- Names: `journal` is the events of the system before, and `journal'` after. `form` is the form that is asked for. `plan` is the plan, and
-- `work` what the line asks for. `status` is the exit status. `TellsWork T journal journal' work outcome`: the work was printed as T says
-- (specs/Told). `TellsOf form` is the printing of plans (specs/Plans).

-- the plan was printed in the form that is asked for
pub tells_put : (journal journal' : List Event) (form : Form) (plan : Plan) (status : ℕ) (work : Work)
    → PutsText journal journal' (form_text form plan) status
    → plan_in work ≡ Some plan → TellsWork (TellsOf form) journal journal' work (Ended (Done status))
tells_put journal journal' form plan status work puts has = (puts.0, puts.1, (plan, has, puts.2))

-- memory lacked, and nothing was printed
pub tells_short : (journal journal' : List Event) (form : Form) (work : Work) → journal' ≡ journal
    → TellsWork (TellsOf form) journal journal' work (Ended OutOfMemory)
tells_short journal journal' form work same = ([], same ∙ sym (append-nil journal), refl)

-- a line with -dumpspecs has no plan to print
pub tells_dump : (journal : List Event) (form : Form) (text : List ℕ) → TellsWork (TellsOf form) journal journal (Dump text) NoPlan
tells_dump journal form text = ([], sym (append-nil journal), (refl, refl))
