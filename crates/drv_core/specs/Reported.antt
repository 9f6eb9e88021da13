use Rattle.drv_core.specs.Events.{is_claimed, is_started, removal_failed, reports}
use Rattle.drv_words.specs.declared.answers.Answer.{Answer}
use Rattle.drv_words.specs.declared.answers.Answer.TheVariants as answer
use Rattle.drv_words.specs.declared.answers.WaitAnswer.TheVariants.{Lost, Signal}
use Rattle.drv_words.specs.declared.steps.Note.{Note}
use Rattle.drv_words.specs.declared.steps.Note.TheVariants as note
use Rattle.drv_words.specs.declared.steps.RunEvent.{RunEvent}
use Rattle.drv_words.specs.declared.steps.Step.{Step}
use Rattle.drv_words.specs.declared.steps.Step.TheVariants as step
use Rattle.std.specs.Prelude.{◌≡◌, Bool, List, [], ◌∷◌, None, Option, Some, false, if◌then◌else◌, true}

-- Each failure is reported to the user at once (this project's profile).

-- the report that an answer requires
abbrev pub note_for : Step → Answer → Option Note
note_for (step.Claim p) (answer.Claim x) = if is_claimed x then None else Some (note.NotClaimed p)
note_for (step.Start p from_pipe to_pipe) (answer.Start x) = if is_started x then None else Some (note.NotStarted p)
note_for (step.Wait p id) (answer.Wait Signal) = Some (note.Signalled p)
note_for (step.Wait p id) (answer.Wait Lost) = Some (note.Lost p)
note_for (step.Remove p) (answer.Remove x) = if removal_failed x then Some (note.NotRemoved p) else None
note_for s a = None

-- whether a step is a report
abbrev pub is_report : Step → Bool
is_report (step.Report n) = true
is_report s = false

-- Each answer that requires a report is followed directly by it, and there is no other report.
pub data Reported : List RunEvent → Type 0 where
  over : Reported []
  silent : (e : RunEvent) (events : List RunEvent) → note_for e.step e.answer ≡ None → is_report e.step ≡ false → Reported events
      → Reported (e ∷ events)
  told : (e : RunEvent) (n : Note) (told : Bool) (events : List RunEvent) → note_for e.step e.answer ≡ Some n → Reported events
      → Reported (e ∷ reports n told ∷ events)
