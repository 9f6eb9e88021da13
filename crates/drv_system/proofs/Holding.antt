use Rattle.drv_system.specs.Code.Holding.{AreBelow, Holds, IsBelow, Numbered}
use Rattle.drv_system.specs.Running.{made, run_of}
use Rattle.drv_system.specs.Script.{children_after, start_numbered}
use Rattle.drv_system.proofs.Running.{pending-append, run_of-append}
use Rattle.drv_system.specs.declared.event.Event.{Event}
use Rattle.drv_words.specs.Stepping.{fits_start, is_child, pending_with, pipe_pending}
use Rattle.drv_words.specs.declared.answers.Answer.{Answer}
use Rattle.drv_words.specs.declared.answers.Answer.TheVariants as answer
use Rattle.drv_words.specs.declared.answers.StartAnswer.{StartAnswer}
use Rattle.drv_words.specs.declared.answers.StartAnswer.TheVariants as start
use Rattle.drv_words.specs.declared.steps.RunEvent.{RunEvent}
use Rattle.drv_words.specs.declared.steps.Step.{Step}
use Rattle.std.proofs.Common.{refl, ap, sym, ◌∙◌, arith, subst}
use Rattle.std.proofs.lemmas.Bool.Decides.{nat_tests}
use Rattle.std.proofs.lemmas.List.{append-nil, length-append}
use Rattle.std.specs.List.{list_any}
use Rattle.std.specs.Prelude.{◌≡◌, ◌<◌, ◌≤◌, ◌+◌, Bool, List, [], ◌∷◌, ◌++◌, None, Option, Some, false, length, nat_eq, true, ℕ}

-- For `HostSystem` and `ScriptSystem`: what is known of them holds after one more event, and the next child gets a new number.
-- Names: `events` is the journal before, or a part of it. `events'` is the journal after. `event` is one more event. `n` is the number of
-- the next child. `m` is that number after the event. `p` says whether a pipe is pending before. `q` says whether a pipe is pending after.
-- `step` is the step that was made. `a` or `reply` is the answer to it. `taken` is what a script has left to answer a start. `x` is the
-- answer to a start. `run_of` is the steps of a run among the events of a journal. `Holds n p events` says that n and p are what the
-- journal shows. `made step a` is the event of a step. `Numbered n events`: the children that the events started have numbers below n.
-- `IsBelow`: the number of a started child is below n. `AreBelow`: all children of these events have numbers below n. `children_after`: the
-- number of children after a start.

-- a number that is below n is below a greater one
below_answer : (n m : ℕ) (a : Answer) → n ≤ m → IsBelow n a → IsBelow m a
below_answer n m (answer.Start (start.Started id)) le below = omega (arith, le, below)
below_answer n m (answer.Start (start.NotStarted why)) le below = tt
below_answer n m (answer.Claim x) le below = tt
below_answer n m answer.Closed le below = tt
below_answer n m (answer.Wait x) le below = tt
below_answer n m (answer.Remove x) le below = tt
below_answer n m (answer.Reported told) le below = tt

-- all children's numbers stay below, with one more event
below_more : (n m : ℕ) (events : List RunEvent) (e : RunEvent) → n ≤ m → AreBelow n events → IsBelow m e.answer
    → AreBelow m (events ++ e ∷ [])
below_more n m [] e le below last = (last, tt)
below_more n m (f ∷ events) e le below last = (below_answer n m f.answer le below.0, below_more n m events e le below.1 last)

-- the run after one more event
beside : (events events' : List Event) (event : Event) → events' ≡ events ++ event ∷ [] → run_of (event ∷ []) ≡ []
    → run_of events' ≡ run_of events
beside events events' event is none =
    ap run_of is ∙ run_of-append events (event ∷ []) ∙ ap (λ rest. run_of events ++ rest) none ∙ append-nil (run_of events)

-- the run after one more step has that step at its end
following : (events events' : List Event) (step : Step) (a : Answer) → events' ≡ events ++ made step a ∷ []
    → run_of events' ≡ run_of events ++ record { step = step; answer = a } ∷ []
following events events' step a is = ap run_of is ∙ run_of-append events (made step a ∷ [])

-- the count of children grows at most as the journal does
one_more : (n m : ℕ) (events events' : List Event) (event : Event) → events' ≡ events ++ event ∷ [] → n ≤ length events → m ≤ n + 1
    → m ≤ length events'
one_more n m events events' event is few le =
    let size : length events' ≡ length events + 1 = ap length is ∙ length-append events (event ∷ []) in omega (arith, size, few, le)

-- a count is at most one more than itself
no_more : (n : ℕ) → n ≤ n + 1
no_more n = omega arith

-- all numbers of children are below the count, if nothing changed
pub numbered_same : {n m : ℕ} {events events' : List Event} → Numbered n events → events' ≡ events → m ≡ n → Numbered m events'
numbered_same {n} {m} {events} {events'} numbered is same = rw (is, same) numbered

-- what is known holds where nothing changed
pub holds_same : {n m : ℕ} {p q : Bool} {events events' : List Event} → Holds n p events → events' ≡ events → m ≡ n → q ≡ p
    → Holds m q events'
holds_same {n} {m} {p} {q} {events} {events'} holds is same_n same_p = rw (is, same_n, same_p) holds

-- a question or a message starts no child
pub numbered_beside : {n m : ℕ} {events events' : List Event} (event : Event) → Numbered n events → events' ≡ events ++ event ∷ []
    → run_of (event ∷ []) ≡ []
    → m ≡ n → Numbered m events'
numbered_beside {n} {m} {events} {events'} event numbered is none same = rw same (record {
  below = subst (λ run. AreBelow n run) (sym (beside events events' event is none)) numbered.below;
  few = one_more n n events events' event is numbered.few (no_more n);
})

-- and after an event that is no step of a run
pub holds_beside : {n m : ℕ} {p q : Bool} {events events' : List Event} (event : Event) → Holds n p events → events' ≡ events ++ event ∷ []
    → run_of (event ∷ []) ≡ []
    → m ≡ n → q ≡ p → Holds m q events'
holds_beside {events = events} {events' = events'} event holds is none same_n same_p = record {
  numbered = numbered_beside event holds.numbered is none same_n;
  pipe = same_p ∙ holds.pipe ∙ ap pipe_pending (sym (beside events events' event is none));
}

-- and after a step that may start one
pub numbered_after : {n m : ℕ} {events events' : List Event} (step : Step) (a : Answer) → Numbered n events
    → events' ≡ events ++ made step a ∷ []
    → n ≤ m → m ≤ n + 1 → IsBelow m a → Numbered m events'
numbered_after {n} {m} {events} {events'} step a numbered is le ge last = record {
  below = subst (λ run. AreBelow m run) (sym (following events events' step a is))
      (below_more n m (run_of events) (record { step = step; answer = a }) le numbered.below last);
  few = one_more n m events events' (made step a) is numbered.few ge;
}

-- and after a step, if its answer's number is below the new count
pub holds_after : {n m : ℕ} {p q : Bool} {events events' : List Event} (step : Step) (reply : Answer) → Holds n p events
    → events' ≡ events ++ made step reply ∷ []
    → n ≤ m → m ≤ n + 1 → IsBelow m reply → q ≡ pending_with p step reply → Holds m q events'
holds_after {events = events} {events' = events'} step reply holds is le ge last pipe = record {
  numbered = numbered_after step reply holds.numbered is le ge last;
  pipe = pipe ∙ ap (λ pending. pending_with pending step reply) holds.pipe
      ∙ sym (pending-append (run_of events) (record { step = step; answer = reply }))
      ∙ ap pipe_pending (sym (following events events' step reply is));
}

-- a started child gets the next number
next_number : (n m l : ℕ) → m ≡ n + 1 → l ≡ n → (n ≤ m) × (m ≤ n + 1) × (l < m)
next_number n m l more same = (omega (arith, more), omega (arith, more), omega (arith, more, same))

-- and after a start, whose child got the next number
pub holds_started : {n m child : ℕ} {p q : Bool} {events events' : List Event} (step : Step) → Holds n p events
    → events' ≡ events ++ made step (answer.Start (start.Started child)) ∷ [] → m ≡ n + 1 → child ≡ n
    → q ≡ pending_with p step (answer.Start (start.Started child)) → Holds m q events'
holds_started {n = n} {m = m} {child = child} step holds is more same pipe =
    let numbers = next_number n m child more same in holds_after step
    (answer.Start (start.Started child)) holds is numbers.0 numbers.1 numbers.2 pipe

-- all numbers stay below the count after a step that starts no child
pub numbered_step : {n m : ℕ} {events events' : List Event} (step : Step) (a : Answer) → Numbered n events
    → events' ≡ events ++ made step a ∷ []
    → m ≡ n → IsBelow n a → Numbered m events'
numbered_step {n} {m} {events} {events'} step a numbered is same last = rw same
    (numbered_after {n = n} {m = n} {events = events} {events' = events'} step a numbered is (le_itself n) (no_more n) last)
  where
    le_itself : (n : ℕ) → n ≤ n
    le_itself n = omega arith

-- and after a step that starts no child
pub holds_step : {n m : ℕ} {p q : Bool} {events events' : List Event} (step : Step) (reply : Answer) → Holds n p events
    → events' ≡ events ++ made step reply ∷ []
    → m ≡ n → IsBelow n reply → q ≡ pending_with p step reply → Holds m q events'
holds_step {events = events} {events' = events'} step reply holds is same last pipe = record {
  numbered = numbered_step step reply holds.numbered is same last;
  pipe = pipe ∙ ap (λ pending. pending_with pending step reply) holds.pipe
      ∙ sym (pending-append (run_of events) (record { step = step; answer = reply }))
      ∙ ap pipe_pending (sym (following events events' step reply is));
}

-- an answer whose number is below n has not the number n
other_number : (n : ℕ) (a : Answer) → IsBelow n a → is_child n a ≡ false
other_number n (answer.Start (start.Started id)) below = differs n id below
  where
    differs : (n id : ℕ) → id < n → nat_eq n id ≡ false
    differs n id below = grind (arith, nat_tests)
other_number n (answer.Start (start.NotStarted why)) below = refl
other_number n (answer.Claim x) below = refl
other_number n answer.Closed below = refl
other_number n (answer.Wait x) below = refl
other_number n (answer.Remove x) below = refl
other_number n (answer.Reported told) below = refl

-- no event has a child of a number that all are below
none_has : (n : ℕ) (events : List RunEvent) → AreBelow n events → list_any (λ (e : RunEvent). is_child n e.answer) events ≡ false
none_has n [] below = refl
none_has n (e ∷ events) below = rw (other_number n e.answer below.0) (none_has n events below.1)

-- so the next number is new for a start
pub new_number : {n : ℕ} {events : List Event} {x : StartAnswer} → Numbered n events → x ≡ start.Started n
    → fits_start (run_of events) x ≡ true
new_number {n} {events} {x} numbered is = rw (is, none_has n (run_of events) numbered.below) refl

-- the same, from all that is known
pub holds_is_new : {n : ℕ} {p : Bool} {events : List Event} {x : StartAnswer} → Holds n p events → x ≡ start.Started n
    → fits_start (run_of events) x ≡ true
holds_is_new holds is = new_number holds.numbered is

-- the child that a script's start gives has a number below the count after it
started_below : (n : ℕ) (taken : Option StartAnswer) → IsBelow (children_after n (start_numbered n taken))
    (answer.Start (start_numbered n taken))
started_below n None = lt_next n
  where
    lt_next : (n : ℕ) → n < n + 1
    lt_next n = omega arith
started_below n (Some (start.Started id)) = lt_next n
  where
    lt_next : (n : ℕ) → n < n + 1
    lt_next n = omega arith
started_below n (Some (start.NotStarted why)) = tt

-- a start makes the count grow by at most one
children_grow : (n : ℕ) (x : StartAnswer) → (n ≤ children_after n x) × (children_after n x ≤ n + 1)
children_grow n (start.Started id) = (omega arith, omega arith)
children_grow n (start.NotStarted why) = (omega arith, omega arith)

-- after a start of the script all numbers are below the count
pub numbered_start : {n m : ℕ} {events events' : List Event} {x : StartAnswer} (step : Step) (taken : Option StartAnswer)
    → Numbered n events
    → events' ≡ events ++ made step (answer.Start x) ∷ [] → x ≡ start_numbered n taken → m ≡ children_after n x → Numbered m events'
numbered_start {n} {m} {events} {events'} {x} step taken numbered is numbers count =
    rw count (numbered_after {n = n} {m = children_after n x} {events = events} {events' = events'} step (answer.Start x) numbered is
    (children_grow n x).0 (children_grow n x).1
    (subst (λ y. IsBelow (children_after n y) (answer.Start y)) (sym numbers) (started_below n taken)))

-- the number that a script's start gives is new
pub script_is_new : {n : ℕ} {events : List Event} {x : StartAnswer} (taken : Option StartAnswer) → Numbered n events
    → x ≡ start_numbered n taken
    → fits_start (run_of events) x ≡ true
script_is_new {n} {events} {x} taken numbered is = ap (λ y. fits_start (run_of events) y) is ∙ by taken
  where
    by : (taken : Option StartAnswer) → fits_start (run_of events) (start_numbered n taken) ≡ true
    by None = rw (none_has n (run_of events) numbered.below) refl
    by (Some (start.Started id)) = rw (none_has n (run_of events) numbered.below) refl
    by (Some (start.NotStarted why)) = refl
