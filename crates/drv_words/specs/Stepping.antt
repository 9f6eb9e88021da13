use Rattle.drv_words.specs.Places.{is_command, is_file, is_note, is_temp}
use Rattle.drv_words.specs.declared.answers.Answer.{Answer}
use Rattle.drv_words.specs.declared.answers.Answer.TheVariants as answer
use Rattle.drv_words.specs.declared.answers.StartAnswer.{StartAnswer}
use Rattle.drv_words.specs.declared.answers.StartAnswer.TheVariants as start
use Rattle.drv_words.specs.declared.plan.Plan.{Plan}
use Rattle.drv_words.specs.declared.steps.Place.{Place}
use Rattle.drv_words.specs.declared.steps.Place.TheVariants as place
use Rattle.drv_words.specs.declared.steps.RunEvent.{RunEvent}
use Rattle.drv_words.specs.declared.steps.Step.{Step}
use Rattle.drv_words.specs.declared.steps.Step.TheVariants as step
use Rattle.std.specs.List.{list_any}
use Rattle.std.specs.Prelude.{◌&&◌, Bool, List, [], ◌∷◌, false, if◌then◌else◌, nat_eq, not, true, ℕ}

-- When a step can be made after the run's events so far, and which answers fit it (this project's profile).

-- whether a pipe is pending after one more event: a started child takes the pending pipe and may leave a new one
abbrev pub pending_after_start : Bool → Bool → StartAnswer → Bool
pending_after_start pending to_pipe (start.Started id) = to_pipe
pending_after_start pending to_pipe (start.NotStarted why) = pending

-- whether a pipe is pending after one more step and its answer
abbrev pub pending_with : Bool → Step → Answer → Bool
pending_with pending (step.Start p from_pipe to_pipe) (answer.Start x) = pending_after_start pending to_pipe x
pending_with pending step.ClosePipe a = false
pending_with pending s a = pending

-- the same after events
abbrev pub pending_from : Bool → List RunEvent → Bool
pending_from pending [] = pending
pending_from pending (e ∷ events) = pending_from (pending_with pending e.step e.answer) events

-- whether a pipe is pending after these events; at the beginning of a run none is
abbrev pub pipe_pending : List RunEvent → Bool
pipe_pending = pending_from false

-- two places are the same command; other places are no commands
abbrev pub same_command : Place → Place → Bool
same_command (place.Command j g i) (place.Command k h l) = nat_eq j k && (nat_eq g h && nat_eq i l)
same_command p q = false

-- the answer says that the child of this number was started
abbrev pub is_child : ℕ → Answer → Bool
is_child id (answer.Start (start.Started new)) = nat_eq id new
is_child id a = false

-- a start at this place; a wait there for the child of this number
abbrev pub is_start_at : Place → Step → Bool
is_start_at p (step.Start q from_pipe to_pipe) = same_command p q
is_start_at p s = false

-- whether a step is the wait for this child at this place
abbrev pub is_wait_for : Place → ℕ → Step → Bool
is_wait_for p id (step.Wait q old) = same_command p q && nat_eq id old
is_wait_for p id s = false

-- the child was started at this place and has not been waited for
abbrev pub is_open : Place → ℕ → List RunEvent → Bool
is_open p id events = list_any (λ e. is_start_at p e.step && is_child id e.answer) events
    && not (list_any (λ e. is_wait_for p id e.step) events)

-- no child has this number yet
abbrev pub is_new : ℕ → List RunEvent → Bool
is_new id events = not (list_any (λ e. is_child id e.answer) events)

-- whether two booleans are equal
abbrev pub same_bool : Bool → Bool → Bool
same_bool a b = if a then b else not b

-- The conditions of a step: the plan has its place, which is of the right kind. A start reads a pipe exactly if one is pending. A close
-- needs a pending pipe. A wait needs a child that is open there.
abbrev pub can_make : Plan → List RunEvent → Step → Bool
can_make plan events (step.Claim p) = is_temp plan p
can_make plan events (step.Start p from_pipe to_pipe) = is_command plan p && same_bool from_pipe (pipe_pending events)
can_make plan events step.ClosePipe = pipe_pending events
can_make plan events (step.Wait p id) = is_open p id events
can_make plan events (step.Remove p) = is_file plan p
can_make plan events (step.Report n) = is_note plan n

-- an answer of the step's kind; a started child has a new number
abbrev pub fits_start : List RunEvent → StartAnswer → Bool
fits_start events (start.Started id) = is_new id events
fits_start events (start.NotStarted why) = true

-- whether an answer fits the step after these events
abbrev pub fits : List RunEvent → Step → Answer → Bool
fits events (step.Claim p) (answer.Claim x) = true
fits events (step.Start p from_pipe to_pipe) (answer.Start x) = fits_start events x
fits events step.ClosePipe answer.Closed = true
fits events (step.Wait p id) (answer.Wait x) = true
fits events (step.Remove p) (answer.Remove x) = true
fits events (step.Report n) (answer.Reported told) = true
fits events s a = false
