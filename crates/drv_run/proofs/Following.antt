use Rattle.drv_core.specs.Needed.{needed}
use Rattle.drv_core.specs.Codes.{status_of}
use Rattle.drv_core.specs.Windowed.{Windowed}
use Rattle.drv_run.specs.Executed.{Executed}
use Rattle.drv_run.specs.Code.Making.{CanMake}
use Rattle.drv_system.proofs.Running.{open_after, pending_of_rest, run_of-append}
use Rattle.drv_system.specs.Running.{run_of}
use Rattle.drv_system.specs.declared.event.Event.{Event}
use Rattle.drv_system.specs.declared.event.Event.TheVariants.{Run}
use Rattle.drv_words.specs.Places.{is_command}
use Rattle.drv_words.specs.Stepping.{can_make, fits, fits_start, is_child, is_new, is_open, pipe_pending, same_bool}
use Rattle.drv_words.specs.declared.answers.Answer.{Answer}
use Rattle.drv_words.specs.declared.answers.Answer.TheVariants as answer
use Rattle.drv_words.specs.declared.answers.StartAnswer.{StartAnswer}
use Rattle.drv_words.specs.declared.answers.StartAnswer.TheVariants as start
use Rattle.drv_words.specs.declared.plan.Plan.{Plan}
use Rattle.drv_words.specs.declared.steps.RunEvent.{RunEvent}
use Rattle.drv_words.specs.declared.steps.Step.{Step}
use Rattle.drv_words.specs.declared.steps.Step.TheVariants as step
use Rattle.std.proofs.Common.{refl, ap, sym, subst, ◌∙◌}
use Rattle.std.specs.List.{list_any}
use Rattle.std.specs.Prelude.{◌≡◌, ◌≤◌, ◌&&◌, ◌||◌, Bool, List, [], ◌∷◌, ◌++◌, false, length, map, not, true, ℕ}

-- For `execute`: after a journal without a pending pipe, a run's events allow the same steps and answers as alone. The journal holds the
-- questions and messages of a call beside the events of its run (`run_of`).
-- Names: `journal` is the journal before. `events` is the events of the run so far. `before` is the events before them. `plan` is the plan.
-- `s` is a step. `a` and `b` are tests. `run_of` is the events of a run among those of a journal. `pipe_pending` says that a pipe is
-- pending after events. `fits events step answer` says that the answer fits.

-- the events of a run are those that the journal has of it
pub run_is : (events : List RunEvent) → run_of (map Run events) ≡ events
run_is [] = refl
run_is (e ∷ events) = ap (λ rest. e ∷ rest) (run_is events)

-- the run's events follow those that the journal had
pub run_after : (journal : List Event) (events : List RunEvent) → run_of (journal ++ map Run events) ≡ run_of journal ++ events
run_after journal events = run_of-append journal (map Run events) ∙ ap (λ rest. run_of journal ++ rest) (run_is events)

-- two tests that hold together, hold each
and_parts : (a b : Bool) → (a && b) ≡ true → (a ≡ true) × (b ≡ true)
and_parts true b e = (refl, e)
and_parts false b e = absurd cc

-- two booleans that compare as equal are the same
same : (a b : Bool) → same_bool a b ≡ true → a ≡ b
same true true e = refl
same true false e = absurd cc
same false true e = absurd cc
same false false e = refl

-- a step that can be made in the run alone can be made after the journal
pub can_after : (plan : Plan) (journal : List Event) (events : List RunEvent) (s : Step) → pipe_pending (run_of journal) ≡ false
    → can_make plan events s ≡ true → CanMake plan (journal ++ map Run events) s
can_after plan journal events (step.Claim p) none can = can
can_after plan journal events (step.Start p from_pipe to_pipe) none can =
    let both : (is_command plan p ≡ true) × (same_bool from_pipe (pipe_pending events) ≡ true) =
    and_parts (is_command plan p) (same_bool from_pipe (pipe_pending events)) can in
    (both.0, same from_pipe (pipe_pending events) both.1 ∙ sym (pipe_after plan journal events none))
  where
    pipe_after : (plan : Plan) (journal : List Event) (events : List RunEvent) → pipe_pending (run_of journal) ≡ false
        → pipe_pending (run_of (journal ++ map Run events)) ≡ pipe_pending events
    pipe_after plan journal events none = ap pipe_pending (run_after journal events) ∙ pending_of_rest (run_of journal) events none
can_after plan journal events step.ClosePipe none can = ap pipe_pending (run_after journal events)
    ∙ pending_of_rest (run_of journal) events none ∙ can
can_after plan journal events (step.Wait p id) none can =
    open_after p id journal (map Run events) (ap (λ run. is_open p id run) (run_is events) ∙ can)
can_after plan journal events (step.Remove p) none can = can
can_after plan journal events (step.Report n) none can = can

-- a number that is new after both is new after the run's own events

-- a child's number that is new after all events is new after the later ones
new_rest : (id : ℕ) (before events : List RunEvent) → is_new id (before ++ events) ≡ true → is_new id events ≡ true
new_rest id [] events is = is
new_rest id (e ∷ before) events is = new_rest id before events
    (by (is_child id e.answer) (list_any (λ (f : RunEvent). is_child id f.answer) (before ++ events)) is)
  where
    -- Plan: `by` says that where neither of two tests passes, the second doesn't.
    by : (a b : Bool) → not (a || b) ≡ true → not b ≡ true
    by false b e = e
    by true b e = absurd cc

-- a number that is new after all events is new after the later ones
start_rest : (before events : List RunEvent) (x : StartAnswer) → fits_start (before ++ events) x ≡ true → fits_start events x ≡ true
start_rest before events (start.Started id) is = new_rest id before events is
start_rest before events (start.NotStarted why) is = is

-- an answer that fits after all events fits after the later ones
fits_rest : (before events : List RunEvent) (s : Step) (a : Answer) → fits (before ++ events) s a ≡ true → fits events s a ≡ true
fits_rest before events (step.Claim p) (answer.Claim x) is = is
fits_rest before events (step.Start p from_pipe to_pipe) (answer.Start x) is = start_rest before events x is
fits_rest before events step.ClosePipe answer.Closed is = is
fits_rest before events (step.Wait p id) (answer.Wait x) is = is
fits_rest before events (step.Remove p) (answer.Remove x) is = is
fits_rest before events (step.Report n) (answer.Reported told) is = is
fits_rest before events s a is = absurd cc

-- an answer that fits after the journal fits in the run alone
pub fits_after : (journal : List Event) (events : List RunEvent) (s : Step) (a : Answer)
    → fits (run_of (journal ++ map Run events)) s a ≡ true → fits events s a ≡ true
fits_after journal events s a is = fits_rest (run_of journal) events s a (subst (λ run. fits run s a ≡ true) (run_after journal events) is)

-- a run that leaves no pipe pending leaves none after both
pub closed_after : (journal journal' : List Event) (events : List RunEvent) → journal' ≡ journal ++ map Run events
    → pipe_pending (run_of journal) ≡ false
    → pipe_pending events ≡ false → pipe_pending (run_of journal') ≡ false
closed_after journal journal' events grows none closed = ap (λ j. pipe_pending (run_of j)) grows
    ∙ ap pipe_pending (run_after journal events) ∙ pending_of_rest (run_of journal) events none ∙ closed

-- a whole run after a journal is a plan carried out, as a caller sees it
pub executed : (plan same_plan : Plan) (pass_codes same_codes : Bool) (N window : ℕ) (journal journal' : List Event) (status : ℕ)
    (events : List RunEvent) → journal' ≡ journal ++ map Run events → same_plan ≡ plan → same_codes ≡ pass_codes → window ≡ N
    → length events ≤ needed same_plan → Windowed same_plan window events → status ≡ status_of same_codes events
    → Executed plan pass_codes N journal journal' status
executed plan same_plan pass_codes same_codes N window journal journal' status events grows plans codes windows few w says = record {
  events = events;
  journal_grows = grows;
  windowed = subst (λ m. Windowed plan m events) windows (subst (λ r. Windowed r window events) plans w);
  few = subst (λ r. length events ≤ needed r) plans few;
  status_is = says ∙ ap (λ b. status_of b events) codes;
}
