use Rattle.drv_core.proofs.Bounds.{bounded}
use Rattle.drv_core.proofs.Counting.{same}
use Rattle.drv_core.proofs.Courses.{Further, NextStep, On, OnAt, done_whole, first_step, fresh_on, goes_further, grows, on_begins}
use Rattle.drv_core.proofs.Courses.{stepped_on, unfinished}
use Rattle.drv_core.proofs.Ending.{LinkAt, LinkOn}
use Rattle.drv_core.proofs.Finish.{Fails, Told, begun_after, clash, fails, still, tells}
use Rattle.drv_core.proofs.Going.{able_is}
use Rattle.drv_core.proofs.Listed.{Is, listed_length}
use Rattle.drv_core.proofs.OneWay.{no_more as none_after}
use Rattle.drv_core.proofs.Possible.{all_possible, none_pending}
use Rattle.drv_core.proofs.Running.{Whole, between_is, not_after, not_inside, shut}
use Rattle.drv_core.proofs.Shown.{some_left}
use Rattle.drv_core.proofs.Sources.{SourcesOn, pick}
use Rattle.drv_core.specs.Choices.{BetweenBlocks, ChoicesAre, IsNextOf, may_go_on}
use Rattle.drv_core.specs.Code.Course.{Course, Done, Link, Phase, Removals, Report, Sources, asked_by, between, between_at}
use Rattle.drv_core.specs.Code.Course.{choices_of, choosing, stepped}
use Rattle.drv_core.specs.Code.CourseView.{Ready, ReadyAt, Rooms, Unswept, course_of, phase_of}
use Rattle.drv_core.specs.Code.Fleet.{Fleet, able, selected}
use Rattle.drv_core.specs.Code.Machine.{At, Out, Turn, asked, closed, is_kind, opened}
use Rattle.drv_core.specs.Code.Reached.{Reached, after_answer, after_choice, at_first}
use Rattle.drv_core.specs.Code.RunView.{Kept, run_of}
use Rattle.drv_core.specs.Code.Turns.{is_inside, is_left as more_left}
use Rattle.drv_core.specs.Codes.{status_of}
use Rattle.drv_core.specs.Needed.{needed}
use Rattle.drv_core.specs.Events.{Block, event, events_of, none}
use Rattle.drv_core.specs.Run.{IfDone, IfMake, action_of}
use Rattle.drv_core.specs.Story.{Goes, Left, Over, Story, begin, next, over}
use Rattle.drv_core.specs.Windowed.{IsBeginning, Windowed, count, is_under_way, link_after, source_at}
use Rattle.drv_core.specs.declared.action.Action.{Action}
use Rattle.drv_core.specs.declared.work.Phase.TheVariants as code
use Rattle.drv_core.specs.declared.work.Phase.{Phase as CodePhase}
use Rattle.drv_core.specs.declared.work.RunState.{RunState}
use Rattle.drv_words.specs.Places.{no_job}
use Rattle.drv_words.specs.Stepping.{can_make, pipe_pending}
use Rattle.drv_words.specs.declared.answers.Answer.{Answer}
use Rattle.drv_words.specs.declared.plan.Job.{Job}
use Rattle.drv_words.specs.declared.plan.Plan.{Plan}
use Rattle.drv_words.specs.declared.steps.RunEvent.{RunEvent}
use Rattle.drv_words.specs.declared.steps.Step.{Step}
use Rattle.std.proofs.Common.{◌≡◌, ◌<◌, ◌≤◌, ◌∙◌, Bool, false, true, List, [], ◌∷◌, ◌++◌, None, Option, Some, ap, append-nil, append_assoc}
use Rattle.std.proofs.Common.{arith, if◌then◌else◌, length, nat_eq, not, refl}
use Rattle.std.proofs.Common.{subst, suc, sym, unwrap_or, ℕ}
use Rattle.std.proofs.lemmas.List.{length-append}
use Rattle.std.specs.Vec.{vec_capacity}

-- What holds of every run of the code, and what callers see of it.

-- between blocks the source in progress is at one
at_block : {k : ℕ} {job : Job} {s : Left} {o : List RunEvent} {t : Turn} → At k job s o t → is_inside t ≡ false → (o ≡ []) × (t ≡ Out s)
at_block closed e = (refl, refl)
at_block (opened h) e = absurd cc

-- between blocks: the stages, and what the code has counted of them
pub record AtBlock (plan : Plan) (N : ℕ) (f : Fleet) (E : List RunEvent) (st : ℕ → Left) : Type 0 where
  pub whole : Whole plan N E st
  pub turns : (j : ℕ) → f.turns j ≡ Out (st j)

block_of : {plan : Plan} {N i : ℕ} {f : Fleet} {E : List RunEvent} (s : SourcesOn plan N f E i) → is_inside (f.turns f.current) ≡ false
    → AtBlock plan N f E s.st
block_of {plan = plan} {N = N} {f = f} {E = E} s e = record {
  whole = subst (λ l. Whole plan N l s.st) (sym (s.events ∙ ap (λ l. s.A ++ l) both.0 ∙ append-nil s.A)) s.whole;
  turns = λ j. by j (nat_eq f.current j) refl;
}
  where
    both : (s.o ≡ []) × (f.turns f.current ≡ Out (s.st f.current))
    both = at_block s.at e

    by : (j : ℕ) (t : Bool) → nat_eq f.current j ≡ t → f.turns j ≡ Out (s.st j)
    by j true is = subst (λ k. f.turns k ≡ Out (s.st k)) (same f.current j is) both.1
    by j false is = s.others j is

-- between blocks as callers see it
between_of : {plan : Plan} {N i : ℕ} {f : Fleet} {E : List RunEvent} (s : SourcesOn plan N f E i) → is_inside (f.turns f.current) ≡ false
    → BetweenBlocks plan N E
between_of {f = f} s e = let b : AtBlock _ _ f _ s.st = block_of s e in record {
  blocks = b.whole.blocks;
  st = s.st;
  events = b.whole.events;
  leads = b.whole.leads;
  some = f.current;
  some_is = s.may.is_source;
  some_left = s.left;
}

-- elsewhere they are not whole blocks of the sources
not_at : {k : ℕ} {plan : Plan} {N : ℕ} {E A : List RunEvent} {st : ℕ → Left} {o : List RunEvent} {t : Turn} → Whole plan N A st
    → At k (source_at plan k) (st k) o t → is_inside t ≡ true → E ≡ A ++ o → BetweenBlocks plan N E → ⊥
not_at w closed e is b = absurd cc
not_at w (opened {e = x} h) e is b = not_inside x w h is b

pub not_between : {plan : Plan} {N i : ℕ} (c : Course) → On plan N c i → between c ≡ false → BetweenBlocks plan N c.events → ⊥
not_between {plan = plan} {N = N} {i = i} c h e b = by c.phase h.at e
  where
    after : {E A : List RunEvent} {s : Left} (F : List RunEvent) → LinkAt plan N E A s → c.events ≡ E ++ F → ⊥
    after {A = A} F l is = not_after (events_of l.blocks ++ F) l.sources l.ended
        (is ∙ ap (λ x. x ++ F) l.events ∙ append_assoc A (events_of l.blocks) F) b

    by : (p : Phase) → OnAt plan N p c i → between_at p c.fleet ≡ false → ⊥
    by Sources s e = not_at s.0.whole s.0.at (inside (is_inside (c.fleet.turns c.fleet.current)) e) s.0.events b
      where
        inside : (t : Bool) → not t ≡ false → t ≡ true
        inside true e = refl
        inside false e = absurd cc
    by Link l e = after l.on.o l.on.link l.on.events
    by Removals d e = after d.0.gone d.0.link d.0.events
    by Report t e = after t.at.gone t.at.link t.at.events
    by Done d e = after d.gone d.link d.events

not_true : (t : Bool) → not t ≡ true → t ≡ false
not_true false e = refl
not_true true e = absurd cc

-- between blocks they are
pub between_on : {plan : Plan} {N i : ℕ} (c : Course) → On plan N c i → between c ≡ true → BetweenBlocks plan N c.events
between_on {plan = plan} {N = N} {i = i} c h e = by c.phase h.at e
  where
    by : (p : Phase) → OnAt plan N p c i → between_at p c.fleet ≡ true → BetweenBlocks plan N c.events
    by Sources s e = between_of s.0 (not_true (is_inside (c.fleet.turns c.fleet.current)) e)
    by Link l e = absurd cc
    by Removals d e = absurd cc
    by Report t e = absurd cc
    by Done d e = absurd cc

-- a choice keeps it
able_count : {plan : Plan} {N i : ℕ} {f : Fleet} {E : List RunEvent} (s : SourcesOn plan N f E i) → is_inside (f.turns f.current) ≡ false
    → length (able plan.jobs f) ≡ count (length plan.jobs) (may_go_on (length plan.jobs) N s.st)
able_count {plan = plan} {N = N} s e = ap (λ (l : List ℕ). length l) (able_is s.tallied (block_of s e).turns)
    ∙ listed_length (length plan.jobs) (may_go_on (length plan.jobs) N s.st)

pub chosen_on : {plan : Plan} {N i : ℕ} (c : Course) (k : ℕ) → On plan N c i → k < choices_of plan c
    → between c ≡ true → On plan N (choosing c k) k
chosen_on {plan = plan} {N = N} {i = i} c k h lt e = by c.phase h.at e lt
  where
    by : (p : Phase) → OnAt plan N p c i → between_at p c.fleet ≡ true → k < choices_of plan (record c { phase = p })
        → On plan N (choosing (record c { phase = p }) k) k
    by Sources s e lt = subst
        (λ t. On plan N (if t then record c { phase = Sources; fleet = selected c.fleet k } else record c { phase = Sources }) k) (sym e)
        (record {
          at = (
            pick c.fleet (block_of s.0 out).whole s.0.keep s.0.tallied (block_of s.0 out).turns k
                (subst (λ n. k < n) (able_count s.0 out) (subst (λ t. k < (if t then length (able plan.jobs c.fleet) else 1)) e lt)),
            s.1,
          );
        })
      where
        out : is_inside (c.fleet.turns c.fleet.current) ≡ false
        out = not_true (is_inside (c.fleet.turns c.fleet.current)) e
    by Link l e lt = absurd cc
    by Removals d e lt = absurd cc
    by Report t e lt = absurd cc
    by Done d e lt = absurd cc

-- what is reached is so
pub record Somehow (plan : Plan) (N : ℕ) (c : Course) : Type 0 where
  pub i : ℕ
  pub on : On plan N c i

pub reached_on : {plan : Plan} {N : ℕ} {c : Course} → 1 ≤ N → Reached plan N c → Somehow plan N c
reached_on one at_first = record { i = 0; on = fresh_on _ _ one }
reached_on one (after_answer c q x r is e) = record { i = 0; on = stepped_on c x one (reached_on one r).on is e }
reached_on {plan = plan} {N = N} one (after_choice c k r lt) = by (between c) refl (reached_on one r)
  where
    by : (t : Bool) → between c ≡ t → Somehow plan N c → Somehow plan N (choosing c k)
    by true e h = record { i = k; on = chosen_on c k h.on lt e }
    by false e h = subst (λ (t : Bool). Somehow plan N (if t then record c { fleet = selected c.fleet k } else c)) (sym e) h

-- the sources that may go on, as callers see them
pub choices_are : {plan : Plan} {N i : ℕ} (c : Course) → On plan N c i → ChoicesAre plan N c.events (choices_of plan c)
choices_are {plan = plan} {N = N} {i = i} c h = by (between c) refl
  where
    by : (t : Bool) → between c ≡ t → ChoicesAre plan N c.events (if t then length (able plan.jobs c.fleet) else 1)
    by false e = record { counted = λ b. absurd (not_between c h e b); elsewhere = λ none. refl }
    by true e = at c.phase h.at e
      where
        at : (p : Phase) → OnAt plan N p c i → between_at p c.fleet ≡ true → ChoicesAre plan N c.events (length (able plan.jobs c.fleet))
        at Sources s e = record {
          counted = λ b. able_count s.0 out ∙ ap (λ st. count (length plan.jobs) (may_go_on (length plan.jobs) N st))
              (between_is (block_of s.0 out).whole b);
          elsewhere = λ none. absurd (none (between_of s.0 out));
        }
          where
            out : is_inside (c.fleet.turns c.fleet.current) ≡ false
            out = not_true (is_inside (c.fleet.turns c.fleet.current)) e
        at Link l e = absurd cc
        at Removals d e = absurd cc
        at Report t e = absurd cc
        at Done d e = absurd cc

-- the source in progress is number i of them
pub is_nth : {plan : Plan} {N i : ℕ} (c : Course) → On plan N c i → (b : BetweenBlocks plan N c.events)
    → IsNextOf plan N c.events b i (asked_by plan c)
is_nth {plan = plan} {N = N} {i = i} c h b = by (between c) refl
  where
    by : (t : Bool) → between c ≡ t → IsNextOf plan N c.events b i (asked_by plan c)
    by false e = absurd (not_between c h e b)
    by true e = at c.phase h.at e
      where
        at : (p : Phase) → OnAt plan N p c i → between_at p c.fleet ≡ true
            → IsNextOf plan N c.events b i (asked_by plan (record c { phase = p }))
        at Sources s e = record {
          source = c.fleet.current;
          in_range = is.below;
          may = subst (λ st. may_go_on (length plan.jobs) N st c.fleet.current ≡ true) stages is.passes;
          number = subst (λ st. count c.fleet.current (may_go_on (length plan.jobs) N st) ≡ i) stages is.number;
          step = next.step;
          asks = ap (asked c.fleet.current (source_at plan c.fleet.current)) ((block_of s.0 out).turns c.fleet.current) ∙ next.is;
          of_source = next.own;
        }
          where
            out : is_inside (c.fleet.turns c.fleet.current) ≡ false
            out = not_true (is_inside (c.fleet.turns c.fleet.current)) e

            is : Is (length plan.jobs) (may_go_on (length plan.jobs) N s.0.st) i c.fleet.current
            is = s.0.nth out

            stages : s.0.st ≡ b.st
            stages = between_is (block_of s.0 out).whole b

            next : NextStep c.fleet.current (asked c.fleet.current (source_at plan c.fleet.current) (Out (s.0.st c.fleet.current)))
            next = first_step c.fleet.current (source_at plan c.fleet.current) (s.0.st c.fleet.current)
                (s.0.keep.sound c.fleet.current) s.0.left
        at Link l e = absurd cc
        at Removals d e = absurd cc
        at Report t e = absurd cc
        at Done d e = absurd cc

-- What the code relies on.

-- a link that is not there has nothing to do
link_idle : {plan : Plan} {N : ℕ} {E A : List RunEvent} {t : Turn} → LinkOn plan N E A t → link_after plan A ≡ no_job
    → more_left t ≡ true → ⊥
link_idle {plan = plan} {N = N} {A = A} l idle e = by l.link l.at e
  where
    empty : {bs : List Block} → Story (length plan.jobs) no_job Over bs → bs ≡ []
    empty over = refl
    empty (next g s) = absurd (none_after g)

    no_more : (bs cs : List Block) (b : Block) → bs ++ b ∷ cs ≡ [] → ⊥
    no_more [] cs b e = absurd cc
    no_more (x ∷ bs) cs b e = absurd cc

    all : {B : List RunEvent} {s m : Left} {b : Block} → LinkAt plan N B A s → Goes (length plan.jobs) (link_after plan A) s b m → ⊥
    all {m = m} {b = b} k g =
        let rest : Told (length plan.jobs) (link_after plan A) m =
        tells (suc (still (link_after plan A) m)) (length plan.jobs) (link_after plan A) m (λ f. clash f (begun_after g)) (omega arith) in
        no_more k.blocks rest.blocks b (empty (subst (λ j. Story (length plan.jobs) j (begin j) (k.blocks ++ b ∷ rest.blocks)) idle
        (k.path (b ∷ rest.blocks) (next g rest.story))))

    by : {B : List RunEvent} {s : Left} {o : Block} {t : Turn} → LinkAt plan N B A s → At (length plan.jobs) (link_after plan A) s o t
        → more_left t ≡ true → ⊥
    by {s = s} k closed e = let f : Fails (length plan.jobs) (link_after plan A) s =
        fails (length plan.jobs) (link_after plan A) s k.sound e in all k f.goes
    by k (opened {e = x} {o = o} {p = p} h) e = all k (shut p h).goes

pub is_ready : (plan : Plan) (w : RunState) → Kept plan w → Ready plan w
is_ready plan w k = by w.phase (reached_on k.one k.reached).on.at
  where
    i : ℕ
    i = (reached_on k.one k.reached).i

    by : (p : CodePhase) → OnAt plan w.fleet.window (phase_of p) (course_of plan w) i → ReadyAt p plan w
    by code.Sources s =
        let lt = s.0.may.is_source in
        let many = k.rooms.sources in
        let begun : length w.fleet.begun.items ≡ count (length plan.jobs) (λ j. is_under_way (s.0.st j)) =
        ap (λ (l : List ℕ). length l) s.0.tallied.begun ∙ listed_length (length plan.jobs) (λ j. is_under_way (s.0.st j)) in
        let few = s.0.keep.window in
        let room = k.rooms.begun in
        (lt, omega (arith, lt, many), omega (arith, begun, few, room))
    by code.Link l = λ none. link_idle l.on (l.runs ∙ ap (λ o. unwrap_or o no_job) none) l.left
    by code.Removals d = some_left w.leftovers.at w.leftovers.due.items d.1
    by code.Report t = some_left w.leftovers.at w.leftovers.due.items (ap none t.due)
    by code.Done d = tt

-- fewer events than a run has at most
fewer : (plan : Plan) (w : RunState) (q : Step) → Kept plan w → asked_by plan (course_of plan w) ≡ Some q
    → length w.events.items < needed plan
fewer plan w q k is = by (goes_further (course_of plan w) k.one (reached_on k.one k.reached).on is)
  where
    by : Further plan w.fleet.window w.events.items q → length w.events.items < needed plan
    by f =
        let most = bounded plan w.fleet.window (w.events.items ++ event q f.x ∷ f.rest) k.filled f.whole in
        let parts = length-append w.events.items (event q f.x ∷ f.rest) in
        omega (arith, most, parts)

-- a step that is asked for has room for its event
pub room_at : (plan : Plan) (w : RunState) (q : Step) → Kept plan w → asked_by plan (course_of plan w) ≡ Some q
    → length w.events.items < vec_capacity w.events
room_at plan w q k is = let few = fewer plan w q k is in let room = k.rooms.events in omega (arith, few, room)

-- after an answer the same is known, and the window is the same
pub same_window : (plan : Plan) (w v : RunState) (q : Step) (x : Answer) → course_of plan v ≡ stepped plan (course_of plan w) q x
    → v.fleet.window ≡ w.fleet.window
same_window plan w v q x to = ap (λ c. c.fleet.window) to ∙ (grows plan (course_of plan w) q x).1

pub answered : (plan : Plan) (w v : RunState) (q : Step) (x : Answer) → Kept plan w → asked_by plan (course_of plan w) ≡ Some q
    → is_kind q x ≡ true → course_of plan v ≡ stepped plan (course_of plan w) q x → Rooms plan v → Unswept plan v → Kept plan v
answered plan w v q x k is e to rooms unswept = record {
  one = subst (λ n. 1 ≤ n) (sym (same_window plan w v q x to)) k.one;
  filled = k.filled;
  reached = subst (λ n. Reached plan n (course_of plan v)) (sym (same_window plan w v q x to))
      (subst (λ c. Reached plan w.fleet.window c) (sym to) (after_answer (course_of plan w) q x k.reached is e));
  rooms = rooms;
  unswept = unswept;
}

-- What `next` ensures.
pub record Knows (plan : Plan) (pass_codes : Bool) (N : ℕ) (E : List RunEvent) (a : Action) : Type 0 where
  pub beginning : IsBeginning plan N E
  pub possible : IfMake a (λ step. can_make plan E step ≡ true)
  pub bound : length E ≤ needed plan
  pub fewer : IfMake a (λ step. length E < needed plan)
  pub unfinished : IfMake a (λ step. Windowed plan N E → ⊥)
  pub whole : IfDone a (λ status. Windowed plan N E)
  pub pipe : IfDone a (λ status. pipe_pending E ≡ false)
  pub status : IfDone a (λ status. status ≡ status_of pass_codes E)

pub knows_at : (plan : Plan) (pass_codes : Bool) (w : RunState) (a : Action) → Kept plan w → a ≡ (run_of plan pass_codes w).action
    → Knows plan pass_codes w.fleet.window w.events.items a
knows_at plan pass_codes w a k is = subst (λ a. Knows plan pass_codes w.fleet.window w.events.items a) (sym is)
    (by (asked_by plan (course_of plan w)) refl)
  where
    h : On plan w.fleet.window (course_of plan w) (reached_on k.one k.reached).i
    h = (reached_on k.one k.reached).on

    by : (o : Option Step) → asked_by plan (course_of plan w) ≡ o
        → Knows plan pass_codes w.fleet.window w.events.items (action_of o (status_of pass_codes w.events.items))
    by (Some q) e = record {
      beginning = on_begins (course_of plan w) k.one h;
      possible = can (goes_further (course_of plan w) k.one h e);
      bound = (let few = fewer plan w q k e in omega (arith, few));
      fewer = fewer plan w q k e;
      unfinished = unfinished (course_of plan w) k.one h e;
      whole = tt;
      pipe = tt;
      status = tt;
    }
      where
        can : Further plan w.fleet.window w.events.items q → can_make plan w.events.items q ≡ true
        can f = all_possible plan w.fleet.window (w.events.items ++ event q f.x ∷ f.rest) k.filled f.whole w.events.items
            (event q f.x) f.rest refl
    by None e = record {
      beginning = on_begins (course_of plan w) k.one h;
      possible = tt;
      bound = bounded plan w.fleet.window w.events.items k.filled (done_whole (course_of plan w) h e);
      fewer = tt;
      unfinished = tt;
      whole = done_whole (course_of plan w) h e;
      pipe = none_pending (done_whole (course_of plan w) h e);
      status = refl;
    }
