use Rattle.drv_system.specs.declared.event.Event.{Event}
use Rattle.drv_system.specs.declared.event.Event.TheVariants.{Run}
use Rattle.drv_system.specs.declared.event.TellAnswer.{TellAnswer}
use Rattle.drv_system.specs.declared.event.TellAnswer.TheVariants as tell
use Rattle.drv_words.specs.Stepping.{is_child, is_start_at, is_wait_for}
use Rattle.drv_words.specs.declared.answers.Answer.{Answer}
use Rattle.drv_words.specs.declared.steps.Place.{Place}
use Rattle.drv_words.specs.declared.steps.RunEvent.{RunEvent}
use Rattle.drv_words.specs.declared.steps.Step.{Step}
use Rattle.std.specs.Prelude.{◌&&◌, Bool, List, [], ◌∷◌, false, if◌then◌else◌, true, ℕ}

-- What a journal says about a run (this project's profile). `pipe_pending` and `is_new` of `drv_words` say, from the run's events, whether
-- a pipe is pending and which numbers of children are new.

-- the events of the run, in order
abbrev pub run_of : List Event → List RunEvent
run_of [] = []
run_of (Run e ∷ events) = e ∷ run_of events
run_of (event ∷ events) = run_of events

-- a step that was made, with its answer
abbrev pub made : Step → Answer → Event
made step answer = Run (record { step = step; answer = answer })

-- whether a message was written to the user
abbrev pub is_told : TellAnswer → Bool
is_told tell.Told = true
is_told tell.Failed = false

-- whether the child of this number, started at this place, is open after one more event: a start opens it, and a wait there closes it
abbrev pub open_with : Place → ℕ → Bool → RunEvent → Bool
open_with place id was e =
    if is_start_at place e.step && is_child id e.answer then true
    else if is_wait_for place id e.step then false
    else was

-- whether a child is open after events; was: whether it was before
abbrev pub open_from : Place → ℕ → Bool → List RunEvent → Bool
open_from place id was [] = was
open_from place id was (e ∷ events) = open_from place id (open_with place id was e) events

-- the child of this number was started at this place and has not been waited for
abbrev pub is_child_open : Place → ℕ → List Event → Bool
is_child_open place id events = open_from place id false (run_of events)
