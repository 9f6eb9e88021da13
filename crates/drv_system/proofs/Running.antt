use Rattle.drv_system.specs.Running.{is_child_open, open_from, open_with, run_of}
use Rattle.drv_system.specs.declared.event.Event.{Event}
use Rattle.drv_system.specs.declared.event.Event.TheVariants.{Read, Kind, Variable, Say, Put, Run}
use Rattle.drv_words.specs.Stepping.{is_child, is_open, is_start_at, is_wait_for, pending_from, pending_with, pipe_pending}
use Rattle.drv_words.specs.declared.steps.Place.{Place}
use Rattle.drv_words.specs.declared.steps.RunEvent.{RunEvent}
use Rattle.std.proofs.Common.{refl, ap, ◌∙◌}
use Rattle.std.specs.List.{list_any}
use Rattle.std.specs.Prelude.{◌≡◌, ◌&&◌, ◌||◌, Bool, List, [], ◌∷◌, ◌++◌, false, if◌then◌else◌, not, true, ℕ}

-- For the steps of a run: the run, the pending pipe and the open children of one journal after another.
-- Names: `before` is the events before, and `after` those after. `place` is the place of a command, and `id` a child's number. `e` and `f`
-- are events of a run. `run_of` is the steps of a run among the events of a journal. `open_from`: whether a child is open after events.
-- `is_wait_for`: whether a step is the wait for this child at this place. `is_child`: the answer says that the child of this number was
-- started. `is_start_at`: a start at this place.

-- the run in two journals is the run in both
pub run_of-append : (before after : List Event) → run_of (before ++ after) ≡ run_of before ++ run_of after
run_of-append [] after = refl
run_of-append (Run e ∷ before) after = ap (λ run. e ∷ run) (run_of-append before after)
run_of-append (Read path answer ∷ before) after = run_of-append before after
run_of-append (Kind path kind ∷ before) after = run_of-append before after
run_of-append (Variable name value ∷ before) after = run_of-append before after
run_of-append (Say text answer ∷ before) after = run_of-append before after
run_of-append (Put text answer ∷ before) after = run_of-append before after

-- a pipe is pending by the events before and then those after
pub pending_from-append : (pending : Bool) (before after : List RunEvent) → pending_from pending (before ++ after) ≡ pending_from
    (pending_from pending before) after
pending_from-append pending [] after = refl
pending_from-append pending (e ∷ before) after = pending_from-append (pending_with pending e.step e.answer) before after

-- the same with one event after
pub pending-append : (before : List RunEvent) (e : RunEvent) → pipe_pending (before ++ e ∷ []) ≡ pending_with (pipe_pending before)
    e.step e.answer
pending-append before e = pending_from-append false before (e ∷ [])

-- after a journal without a pending pipe, the later events decide whether one is pending
pub pending_of_rest : (before after : List RunEvent) → pipe_pending before ≡ false → pipe_pending (before ++ after) ≡ pipe_pending after
pending_of_rest before after none = pending_from-append false before after ∙ ap (λ pending. pending_from pending after) none

-- a child is open by the events before and then those after
pub open_from-append : (place : Place) (id : ℕ) (was : Bool) (before after : List RunEvent)
    → open_from place id was (before ++ after) ≡ open_from place id (open_from place id was before) after
open_from-append place id was [] after = refl
open_from-append place id was (e ∷ before) after = open_from-append place id (open_with place id was e) before after

-- a child that a run's events started and did not wait for is open after them, whatever came before
not_both : (a b : Bool) → not (a || b) ≡ true → (a ≡ false) × (not b ≡ true)
not_both false b e = (refl, e)
not_both true b e = absurd cc

-- an open child stays open if no wait for it comes
stays_open : (place : Place) (id : ℕ) (events : List RunEvent)
    → not (list_any (λ (e : RunEvent). is_wait_for place id e.step) events) ≡ true
    → open_from place id true events ≡ true
stays_open place id [] none = refl
stays_open place id (e ∷ events) none =
    let both : (is_wait_for place id e.step ≡ false) × (not (list_any (λ (f : RunEvent). is_wait_for place id f.step) events) ≡ true) =
    not_both (is_wait_for place id e.step) _ none in
    still (is_start_at place e.step && is_child id e.answer) (is_wait_for place id e.step) both.0 (stays_open place id events both.1)
  where
    -- a child that was not waited for stays open
    still : (starts waits : Bool) → waits ≡ false → open_from place id true events ≡ true
        → open_from place id (if starts then true else if waits then false else true) events ≡ true
    still true waits is rest = rest
    still false true is rest = absurd cc
    still false false is rest = rest

-- a child that was started, and not waited for, is open
pub opens : (place : Place) (id : ℕ) (was : Bool) (events : List RunEvent)
    → list_any (λ (e : RunEvent). is_start_at place e.step && is_child id e.answer) events ≡ true
    → not (list_any (λ (e : RunEvent). is_wait_for place id e.step) events) ≡ true → open_from place id was events ≡ true
opens place id was [] some none = absurd cc
opens place id was (e ∷ events) some none =
    let both : (is_wait_for place id e.step ≡ false) × (not (list_any (λ (f : RunEvent). is_wait_for place id f.step) events) ≡ true) =
    not_both (is_wait_for place id e.step) _ none in
    by (is_start_at place e.step && is_child id e.answer) some (stays_open place id events both.1)
    (λ rest. opens place id (if is_wait_for place id e.step then false else was) events rest both.1)
  where
    -- Plan: by whether the first event starts the child: then it is open from there on.
    by : (starts : Bool) → (starts || list_any (λ (f : RunEvent). is_start_at place f.step && is_child id f.answer) events) ≡ true
        → open_from place id true events ≡ true
        → (list_any (λ (f : RunEvent). is_start_at place f.step && is_child id f.answer) events ≡ true
        → open_from place id (if is_wait_for place id e.step then false else was) events ≡ true)
        → open_from place id (if starts then true else if is_wait_for place id e.step then false else was) events ≡ true
    by true some stays later = stays
    by false some stays later = later some

-- two tests that hold together, hold each
and_parts : (a b : Bool) → (a && b) ≡ true → (a ≡ true) × (b ≡ true)
and_parts true b e = (refl, e)
and_parts false b e = absurd cc

-- the condition of `wait` after any journal, for a child that the run's own events left open
pub open_after : (place : Place) (id : ℕ) (journal after : List Event) → is_open place id (run_of after) ≡ true
    → is_child_open place id (journal ++ after) ≡ true
open_after place id journal after is =
    let both = and_parts (list_any (λ (e : RunEvent). is_start_at place e.step && is_child id e.answer) (run_of after)) _ is in
    ap (λ run. open_from place id false run) (run_of-append journal after)
    ∙ open_from-append place id false (run_of journal) (run_of after)
    ∙ opens place id (open_from place id false (run_of journal)) (run_of after) both.0 both.1
