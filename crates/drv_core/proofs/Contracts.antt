use Rattle.drv_core.proofs.Courses.{On, fresh_on, grows, sourced_same, stepped_on}
use Rattle.drv_core.proofs.Runs.{Knows, between_on, chosen_on, choices_are, is_nth, knows_at, not_between, reached_on}
use Rattle.drv_core.specs.Choices.{BetweenBlocks, ChoicesAre, IsChoice, IsNextOf, IsOfFirst}
use Rattle.drv_core.specs.Code.Course.{Course, asked_by, between, choices_of, choosing, first_course, fresh_course, stepped}
use Rattle.drv_core.specs.Code.CourseView.{Rooms, Unswept, course_of}
use Rattle.drv_core.specs.Code.Fleet.{selected}
use Rattle.drv_core.specs.Code.Machine.{is_kind}
use Rattle.drv_core.specs.Code.Reached.{Reached, after_choice, at_first}
use Rattle.drv_core.specs.Code.RunView.{Kept, run_of}
use Rattle.drv_core.specs.Codes.{status_of}
use Rattle.drv_core.specs.Events.{event}
use Rattle.drv_core.specs.Filled.{AllFilled}
use Rattle.drv_core.specs.Run.{IfDone, IfMake, Run, action_of, step_in}
use Rattle.drv_core.specs.declared.action.Action.{Action}
use Rattle.drv_core.specs.declared.work.RunState.{RunState}
use Rattle.drv_words.specs.Stepping.{fits}
use Rattle.drv_words.specs.declared.answers.Answer.{Answer}
use Rattle.drv_words.specs.declared.answers.Answer.TheVariants as answer
use Rattle.drv_words.specs.declared.plan.Plan.{Plan}
use Rattle.drv_words.specs.declared.steps.RunEvent.{RunEvent}
use Rattle.drv_words.specs.declared.steps.Step.{Step}
use Rattle.drv_words.specs.declared.steps.Step.TheVariants as step
use Rattle.std.proofs.Common.{◌≡◌, ◌<◌, ◌≤◌, ◌∙◌, Bool, false, true, List, [], ◌∷◌, ◌++◌, None, Option, Some, ap, if◌then◌else◌, refl}
use Rattle.std.proofs.Common.{subst, sym, ℕ}

-- The clauses of `Run`, of a run of the code that a caller sees as `r`.

pub knows : (plan : Plan) (pass_codes : Bool) (w : RunState) (r : Run) (a : Action) → Kept plan w → run_of plan pass_codes w ≡ r
    → a ≡ (run_of plan pass_codes w).action → Knows r.plan r.pass_codes r.window r.events a
knows plan pass_codes w r a k e is = subst (λ x. Knows x.plan x.pass_codes x.window x.events a) e (knows_at plan pass_codes w a k is)

-- the step of an action
step_of : (o : Option Step) (n : ℕ) → step_in (action_of o n) ≡ o
step_of None n = refl
step_of (Some q) n = refl

-- at the beginning
pub begun : (plan : Plan) (w : RunState) (N : ℕ) → 1 ≤ N → AllFilled plan → Rooms plan w → Unswept plan w
    → course_of plan w ≡ fresh_course plan N → (w.fleet.window ≡ N) → Kept plan w
begun plan w N some filled rooms unswept is window = record {
  one = subst (λ n. 1 ≤ n) (sym window) some;
  filled = filled;
  reached = subst (λ n. Reached plan n (course_of plan w)) (sym window) (subst (λ c. Reached plan N c) (sym is) at_first);
  rooms = rooms;
  unswept = unswept;
}

-- the course at the beginning
pub fresh_window : (plan : Plan) (w : RunState) (N : ℕ) → course_of plan w ≡ fresh_course plan N → w.fleet.window ≡ N
fresh_window plan w N is = ap (λ c. c.fleet.window) is ∙ ap (λ f. f.window) (sourced_same plan (first_course plan N)).1

pub fresh_events : (plan : Plan) (w : RunState) (N : ℕ) → course_of plan w ≡ fresh_course plan N → w.events.items ≡ []
fresh_events plan w N is = ap (λ c. c.events) is ∙ (sourced_same plan (first_course plan N)).0

-- the next step is of source number i of those that may go on
nth_of : (plan : Plan) (pass_codes : Bool) (w : RunState) (i : ℕ) → On plan w.fleet.window (course_of plan w) i
    → (b : BetweenBlocks plan w.fleet.window w.events.items)
    → IsNextOf plan w.fleet.window w.events.items b i (step_in (run_of plan pass_codes w).action)
nth_of plan pass_codes w i h b = subst (λ o. IsNextOf plan w.fleet.window w.events.items b i o)
    (sym (step_of (asked_by plan (course_of plan w)) (status_of pass_codes w.events.items))) (is_nth (course_of plan w) h b)

pub begun_first : (plan : Plan) (pass_codes : Bool) (w : RunState) (N : ℕ) → 1 ≤ N → w.fleet.window ≡ N
    → course_of plan w ≡ fresh_course plan N
    → IsOfFirst plan w.fleet.window w.events.items (step_in (run_of plan pass_codes w).action)
begun_first plan pass_codes w N some window is b = nth_of plan pass_codes w 0
    (subst (λ n. On plan n (course_of plan w) 0) (sym window) (subst (λ c. On plan N c 0) (sym is) (fresh_on plan N some))) b

-- an answer that fits has the kind of its step
pub fits_kind : (E : List RunEvent) (q : Step) (x : Answer) → fits E q x ≡ true → is_kind q x ≡ true
fits_kind E (step.Claim p) (answer.Claim x) e = refl
fits_kind E (step.Start p from_pipe to_pipe) (answer.Start x) e = refl
fits_kind E step.ClosePipe answer.Closed e = refl
fits_kind E (step.Wait p id) (answer.Wait x) e = refl
fits_kind E (step.Remove p) (answer.Remove x) e = refl
fits_kind E (step.Report n) (answer.Reported x) e = refl
fits_kind E q x e = absurd cc

-- after an answer
pub answered_events : (plan : Plan) (pass_codes : Bool) (w v : RunState) (r : Run) (x : Answer) → run_of plan pass_codes w ≡ r
    → ((q : Step) → asked_by plan (course_of plan w) ≡ Some q → course_of plan v ≡ stepped plan (course_of plan w) q x)
    → IfMake r.action (λ step. v.events.items ≡ r.events ++ event step x ∷ [])
answered_events plan pass_codes w v r x e moves = subst (λ y. IfMake y.action (λ step. v.events.items ≡ y.events ++ event step x ∷ [])) e
    (by (asked_by plan (course_of plan w)) refl)
  where
    by : (o : Option Step) → asked_by plan (course_of plan w) ≡ o
        → IfMake (action_of o (status_of pass_codes w.events.items)) (λ step. v.events.items ≡ w.events.items ++ event step x ∷ [])
    by None is = tt
    by (Some q) is = ap (λ c. c.events) (moves q is) ∙ (grows plan (course_of plan w) q x).0

pub answered_first : (plan : Plan) (pass_codes : Bool) (w v : RunState) (r : Run) (x : Answer) → Kept plan w → run_of plan pass_codes w ≡ r
    → IfDone r.action (λ status. ⊥) → IfMake r.action (λ step. fits r.events step x ≡ true)
    → ((q : Step) → asked_by plan (course_of plan w) ≡ Some q → course_of plan v ≡ stepped plan (course_of plan w) q x)
    → v.fleet.window ≡ w.fleet.window
    → IsOfFirst plan v.fleet.window v.events.items (step_in (run_of plan pass_codes v).action)
answered_first plan pass_codes w v r x k e more fit moves window b = nth_of plan pass_codes v 0 (by (asked_by plan (course_of plan w)) refl
    (subst (λ y. IfDone y.action (λ status. ⊥)) (sym e) more)
    (subst (λ y. IfMake y.action (λ step. fits y.events step x ≡ true)) (sym e) fit)) b
  where
    by : (o : Option Step) → asked_by plan (course_of plan w) ≡ o → IfDone (action_of o (status_of pass_codes w.events.items)) (λ status. ⊥)
        → IfMake (action_of o (status_of pass_codes w.events.items)) (λ step. fits w.events.items step x ≡ true)
        → On plan v.fleet.window (course_of plan v) 0
    by None is more fit = absurd more
    by (Some q) is more fit = subst (λ n. On plan n (course_of plan v) 0) (sym window)
        (subst (λ c. On plan w.fleet.window c 0) (sym (moves q is))
        (stepped_on (course_of plan w) x k.one (reached_on k.one k.reached).on is (fits_kind w.events.items q x fit)))

-- the choices
pub choices_told : (plan : Plan) (pass_codes : Bool) (w : RunState) (r : Run) (n : ℕ) → Kept plan w → run_of plan pass_codes w ≡ r
    → n ≡ choices_of plan (course_of plan w) → ChoicesAre r.plan r.window r.events n
choices_told plan pass_codes w r n k e is = subst (λ x. ChoicesAre x.plan x.window x.events n) e
    (subst (λ m. ChoicesAre plan w.fleet.window w.events.items m) (sym is) (choices_are (course_of plan w) (reached_on k.one k.reached).on))

pub choice_of : (plan : Plan) (pass_codes : Bool) (w : RunState) (r : Run) (i : ℕ) → run_of plan pass_codes w ≡ r
    → IsChoice r.plan r.window r.events i → IsChoice plan w.fleet.window w.events.items i
choice_of plan pass_codes w r i e h = subst (λ x. IsChoice x.plan x.window x.events i) (sym e) h

-- such a choice is one of the code's
less : (plan : Plan) (w : RunState) (i : ℕ) → Kept plan w → IsChoice plan w.fleet.window w.events.items i
    → i < choices_of plan (course_of plan w)
less plan w i k h = by (between (course_of plan w)) refl (choices_are (course_of plan w) (reached_on k.one k.reached).on)
  where
    by : (t : Bool) → between (course_of plan w) ≡ t → ChoicesAre plan w.fleet.window w.events.items (choices_of plan (course_of plan w))
        → i < choices_of plan (course_of plan w)
    by true e are = subst (λ n. i < n) (sym (are.counted (at e))) (h.counted (at e))
      where
        at : between (course_of plan w) ≡ true → BetweenBlocks plan w.fleet.window w.events.items
        at e = between_on (course_of plan w) (reached_on k.one k.reached).on e
    by false e are = subst (λ n. i < n) (sym (are.elsewhere none)) (h.elsewhere none)
      where
        none : BetweenBlocks plan w.fleet.window w.events.items → ⊥
        none = not_between (course_of plan w) (reached_on k.one k.reached).on e

choosing_window : (c : Course) (i : ℕ) → (choosing c i).fleet.window ≡ c.fleet.window
choosing_window c i = by (between c)
  where
    by : (t : Bool) → (if t then record c { fleet = selected c.fleet i } else c).fleet.window ≡ c.fleet.window
    by true = refl
    by false = refl

choosing_events : (c : Course) (i : ℕ) → (choosing c i).events ≡ c.events
choosing_events c i = by (between c)
  where
    by : (t : Bool) → (if t then record c { fleet = selected c.fleet i } else c).events ≡ c.events
    by true = refl
    by false = refl

-- a run as its course shows it
abbrev run_at : Plan → Bool → Course → Run
run_at plan pass_codes c = record {
  plan = plan;
  pass_codes = pass_codes;
  window = c.fleet.window;
  events = c.events;
  action = action_of (asked_by plan c) (status_of pass_codes c.events);
}

pub turned_window : (plan : Plan) (w v : RunState) (i : ℕ) → course_of plan v ≡ choosing (course_of plan w) i
    → v.fleet.window ≡ w.fleet.window
turned_window plan w v i is = ap (λ c. c.fleet.window) is ∙ choosing_window (course_of plan w) i

pub turned_kept : (plan : Plan) (w v : RunState) (i : ℕ) → Kept plan w → IsChoice plan w.fleet.window w.events.items i
    → course_of plan v ≡ choosing (course_of plan w) i → Rooms plan v → Unswept plan v → Kept plan v
turned_kept plan w v i k h is rooms unswept = record {
  one = subst (λ n. 1 ≤ n) (sym (turned_window plan w v i is)) k.one;
  filled = k.filled;
  reached = subst (λ n. Reached plan n (course_of plan v)) (sym (turned_window plan w v i is))
      (subst (λ c. Reached plan w.fleet.window c) (sym is) (after_choice (course_of plan w) i k.reached (less plan w i k h)));
  rooms = rooms;
  unswept = unswept;
}

pub turned_next : (plan : Plan) (pass_codes : Bool) (w v : RunState) (r : Run) (i : ℕ) → Kept plan w → run_of plan pass_codes w ≡ r
    → IsChoice r.plan r.window r.events i → course_of plan v ≡ choosing (course_of plan w) i → (b : BetweenBlocks r.plan r.window r.events)
    → IsNextOf r.plan r.window r.events b i (step_in (run_of plan pass_codes v).action)
turned_next plan pass_codes w v r i k e h is = subst (λ x. (b : BetweenBlocks x.plan x.window x.events)
    → IsNextOf x.plan x.window x.events b i (step_in (run_of plan pass_codes v).action)) e at
  where
    lt : i < choices_of plan (course_of plan w)
    lt = less plan w i k (choice_of plan pass_codes w r i e h)

    chosen : (b : BetweenBlocks plan w.fleet.window w.events.items) (t : Bool) → between (course_of plan w) ≡ t
        → On plan w.fleet.window (course_of plan v) i
    chosen b true e = subst (λ c. On plan w.fleet.window c i) (sym is) (chosen_on (course_of plan w) i (reached_on k.one k.reached).on lt e)
    chosen b false e = absurd (not_between (course_of plan w) (reached_on k.one k.reached).on e b)

    same_events : v.events.items ≡ w.events.items
    same_events = ap (λ c. c.events) is ∙ choosing_events (course_of plan w) i

    at : (b : BetweenBlocks plan w.fleet.window w.events.items)
        → IsNextOf plan w.fleet.window w.events.items b i (step_in (run_of plan pass_codes v).action)
    at = subst (λ l. (b : BetweenBlocks plan w.fleet.window l)
        → IsNextOf plan w.fleet.window l b i (step_in (run_of plan pass_codes v).action)) same_events
        (λ b. subst (λ o. IsNextOf plan w.fleet.window v.events.items b i o)
        (sym (step_of (asked_by plan (course_of plan v)) (status_of pass_codes v.events.items)))
        (is_nth (course_of plan v) (chosen (subst (λ l. BetweenBlocks plan w.fleet.window l) same_events b)
        (between (course_of plan w)) refl) b))

pub turned_elsewhere : (plan : Plan) (pass_codes : Bool) (w v : RunState) (r : Run) (i : ℕ) → Kept plan w → run_of plan pass_codes w ≡ r
    → course_of plan v ≡ choosing (course_of plan w) i → (BetweenBlocks r.plan r.window r.events → ⊥) → run_of plan pass_codes v ≡ r
turned_elsewhere plan pass_codes w v r i k e is none = ap (run_at plan pass_codes) (is ∙ by (between (course_of plan w)) refl) ∙ e
  where
    by : (t : Bool) → between (course_of plan w) ≡ t
        → (if t then record (course_of plan w) { fleet = selected (course_of plan w).fleet i } else course_of plan w) ≡ course_of plan w
    by true t = absurd (subst (λ x. BetweenBlocks x.plan x.window x.events → ⊥) (sym e) none
        (between_on (course_of plan w) (reached_on k.one k.reached).on t))
    by false t = refl

pub turned_events : (plan : Plan) (pass_codes : Bool) (w v : RunState) (r : Run) (i : ℕ) → run_of plan pass_codes w ≡ r
    → course_of plan v ≡ choosing (course_of plan w) i → v.events.items ≡ r.events
turned_events plan pass_codes w v r i e is = ap (λ c. c.events) is ∙ choosing_events (course_of plan w) i ∙ ap (λ x. x.events) e
