use Rattle.drv_core.proofs.Counting.{count_none}
use Rattle.drv_core.proofs.Finish.{Keeps, begun_after, clash, keeps_first, keeps_more}
use Rattle.drv_core.proofs.Going.{Tallied, chosen_is, counted, first_is, fresh_is, may_come, some_may}
use Rattle.drv_core.proofs.Listed.{Is, listed_below}
use Rattle.drv_core.proofs.Running.{Whole, at_open, at_takes, whole_more}
use Rattle.drv_core.proofs.Serial.{begin_idle}
use Rattle.drv_core.specs.Choices.{may_go_on}
use Rattle.drv_core.specs.Code.Fleet.{Fleet, asked_of, busy, closed, ended, first_busy, fresh_fleet, going, opened, selected, settled}
use Rattle.drv_core.specs.Code.Fleet.{taken, turn_put, turned}
use Rattle.drv_core.specs.Code.Machine.{At, In, Out, Took, Turn, closed as at_block, is_kind, took}
use Rattle.drv_core.specs.Code.Turns.{is_inside, is_left as more_left}
use Rattle.drv_core.specs.Events.{Block, event, none}
use Rattle.drv_core.specs.Story.{Left, Over, begin, begin_with}
use Rattle.drv_core.specs.Windowed.{MayCome, begins, count, is_left, is_under_way, no_more, put, source_at}
use Rattle.drv_words.specs.Places.{no_job}
use Rattle.drv_words.specs.declared.answers.Answer.{Answer}
use Rattle.drv_words.specs.declared.plan.Command.{Command}
use Rattle.drv_words.specs.declared.plan.Job.{Job}
use Rattle.drv_words.specs.declared.plan.Plan.{Plan}
use Rattle.drv_words.specs.declared.steps.RunEvent.{RunEvent}
use Rattle.drv_words.specs.declared.steps.Step.{Step}
use Rattle.std.proofs.Common.{◌≡◌, ◌<◌, ◌≤◌, ◌+◌, ◌∙◌, ◌⊎◌, Bool, false, true, List, [], ◌∷◌, ◌++◌, Some, ap, append-nil, append_assoc}
use Rattle.std.proofs.Common.{arith, drop}
use Rattle.std.proofs.Common.{get_or, if◌then◌else◌, inl, inr, length, nat_eq, not, refl, subst, suc, sym, zero, ℕ}
use Rattle.std.proofs.lemmas.Cmp.{nat_eq_equiv}
use Rattle.std.specs.List.{filter}

-- The sources of a run, as the code goes through them. One of them is in progress, between its blocks or inside one; between blocks it is
-- number i of those that may go on.

pub record SourcesOn (plan : Plan) (N : ℕ) (f : Fleet) (E : List RunEvent) (i : ℕ) : Type 0 where
  pub A : List RunEvent
  pub st : ℕ → Left
  pub o : Block
  pub whole : Whole plan N A st
  pub keep : Keeps (length plan.jobs) N (source_at plan) st
  pub tallied : Tallied plan.jobs N st f
  pub may : MayCome (length plan.jobs) N st f.current
  pub left : is_left (st f.current) ≡ true
  pub at : At f.current (source_at plan f.current) (st f.current) o (f.turns f.current)
  pub others : (j : ℕ) → nat_eq f.current j ≡ false → f.turns j ≡ Out (st j)
  pub events : E ≡ A ++ o
  pub nth : is_inside (f.turns f.current) ≡ false → Is (length plan.jobs) (may_go_on (length plan.jobs) N st) i f.current

-- or all have ended
pub record SourcesOver (plan : Plan) (N : ℕ) (f : Fleet) (E : List RunEvent) : Type 0 where
  pub st : ℕ → Left
  pub whole : Whole plan N E st
  pub ended : (j : ℕ) → st j ≡ Over
  pub unended : f.unended ≡ 0

-- the code's counts speak of no turn, and not of the source in progress
same_tally : {jobs : List Job} {N : ℕ} {st : ℕ → Left} {f : Fleet} (turns : ℕ → Turn) (current : ℕ) → Tallied jobs N st f
    → Tallied jobs N st (record f { turns = turns; current = current })
same_tally turns current t = record {
  begun = t.begun;
  unended = t.unended;
  window = t.window;
  next_in = t.next_in;
  before = t.before;
  after = t.after;
  at_next = t.at_next;
}

turns_opened : (jobs : List Job) (f : Fleet) → (opened jobs f).turns ≡ f.turns
turns_opened jobs f = by (nat_eq f.current f.next)
  where
    by : (t : Bool) → (if t then record f {
      begun = f.begun ++ f.current ∷ [];
      next =
          first_busy (f.current + 1) (drop (f.current + 1) jobs);
    } else f).turns ≡ f.turns
    by true = refl
    by false = refl

turns_closed : (f : Fleet) → (closed f).turns ≡ f.turns
turns_closed f = by (more_left (f.turns f.current))
  where
    by : (t : Bool) → (if t then f else ended f).turns ≡ f.turns
    by true = refl
    by false = refl

-- between blocks the k-th of those that may go on is chosen
pub pick : {plan : Plan} {N : ℕ} {st : ℕ → Left} {E : List RunEvent} (g : Fleet) → Whole plan N E st
    → Keeps (length plan.jobs) N (source_at plan) st → Tallied plan.jobs N st g → ((j : ℕ) → g.turns j ≡ Out (st j)) → (k : ℕ)
    → k < count (length plan.jobs) (may_go_on (length plan.jobs) N st) → SourcesOn plan N (selected g k) E k
pick {plan = plan} {N = N} {st = st} {E = E} g w keep t turns k lt = record {
  A = E;
  st = st;
  o = [];
  whole = w;
  keep = keep;
  tallied = same_tally g.turns (get_or (going g) k g.next) t;
  may = both.0;
  left = both.1;
  at = subst (λ u. At (get_or (going g) k g.next) (source_at plan (get_or (going g) k g.next)) (st (get_or (going g) k g.next)) [] u)
      (sym (turns (get_or (going g) k g.next))) at_block;
  others = λ j e. turns j;
  events = sym (append-nil E);
  nth = λ e. is;
}
  where
    is : Is (length plan.jobs) (may_go_on (length plan.jobs) N st) k (get_or (going g) k g.next)
    is = chosen_is t turns k lt

    both : (MayCome (length plan.jobs) N st (get_or (going g) k g.next)) × (is_left (st (get_or (going g) k g.next)) ≡ true)
    both = may_come (length plan.jobs) N st (get_or (going g) k g.next) is.below is.passes

-- between blocks the first source that may go on does so, or all have ended
choose : {plan : Plan} {N : ℕ} {st : ℕ → Left} {E : List RunEvent} (g : Fleet) → 1 ≤ N → Whole plan N E st
    → Keeps (length plan.jobs) N (source_at plan) st → Tallied plan.jobs N st g → ((j : ℕ) → g.turns j ≡ Out (st j))
    → SourcesOn plan N (selected g 0) E 0 ⊎ SourcesOver plan N (selected g 0) E
choose {plan = plan} {N = N} {st = st} {E = E} g one w keep t turns = by (some_may one keep)
  where
    by : (0 < count (length plan.jobs) (may_go_on (length plan.jobs) N st)) ⊎ ((j : ℕ) → st j ≡ Over)
        → SourcesOn plan N (selected g 0) E 0 ⊎ SourcesOver plan N (selected g 0) E
    by (inl lt) = inl (pick g w keep t turns 0 lt)
    by (inr over) = inr (record {
      st = st;
      whole = w;
      ended = over;
      unended = t.unended ∙ count_none (length plan.jobs) (λ j. is_left (st j)) (λ j lt. ap is_left (over j));
    })

-- an answer to the next step
pub sources_take : {plan : Plan} {N i : ℕ} {f : Fleet} {E : List RunEvent} {q : Step} (x : Answer) → 1 ≤ N → SourcesOn plan N f E i
    → asked_of plan.jobs f ≡ Some q → is_kind q x ≡ true
    → SourcesOn plan N (taken plan.jobs f x) (E ++ event q x ∷ []) 0 ⊎ SourcesOver plan N (taken plan.jobs f x) (E ++ event q x ∷ [])
sources_take {plan = plan} {N = N} {f = f} {E = E} {q = q} x one s is e = by (took job (f.turns k) x) refl (at_takes x s.at is e)
  where
    k : ℕ
    k = f.current

    job : Job
    job = source_at plan f.current

    events : E ++ event q x ∷ [] ≡ s.A ++ (s.o ++ event q x ∷ [])
    events = ap (λ l. l ++ event q x ∷ []) s.events ∙ append_assoc s.A s.o (event q x ∷ [])

    here : (t : Turn) → turn_put f.turns f.current t f.current ≡ t
    here t = rw (nat_eq_equiv.refl f.current) refl

    there : (t : Turn) (j : ℕ) → nat_eq f.current j ≡ false → turn_put f.turns f.current t j ≡ f.turns j
    there t j e = rw e refl

    with : Turn → Fleet
    with t = record f { turns = turn_put f.turns f.current t }

    inside : (t : Turn) (u : Bool) → is_inside t ≡ u → settled plan.jobs (with t) ≡ (if u then with t else turned plan.jobs (with t))
    inside t u e = ap (λ (v : Bool). if v then with t else turned plan.jobs (with t)) (ap is_inside (here t) ∙ e)

    by : (t : Turn) → took job (f.turns k) x ≡ t → Took k job (s.st k) (s.o ++ event q x ∷ []) t
        → SourcesOn plan N (settled plan.jobs (with (took job (f.turns k) x))) (E ++ event q x ∷ []) 0
        ⊎ SourcesOver plan N (settled plan.jobs (with (took job (f.turns k) x))) (E ++ event q x ∷ [])
    by (In p) t h = subst (λ g. SourcesOn plan N g (E ++ event q x ∷ []) 0 ⊎ SourcesOver plan N g (E ++ event q x ∷ []))
        (sym (ap (λ u. settled plan.jobs (with u)) t ∙ inside (In p) true refl)) (inl (record {
          A = s.A;
          st = s.st;
          o = s.o ++ event q x ∷ [];
          whole = s.whole;
          keep = s.keep;
          tallied = same_tally (turn_put f.turns f.current (In p)) f.current s.tallied;
          may = s.may;
          left = s.left;
          at = subst (λ u. At k job (s.st k) (s.o ++ event q x ∷ []) u) (sym (here (In p))) (at_open s.o (event q x) h);
          others = λ j e. there (In p) j e ∙ s.others j e;
          events = events;
          nth = λ no. clash (ap is_inside (here (In p))) no;
        }))
    by (Out m) t g = subst (λ c. SourcesOn plan N c (E ++ event q x ∷ []) 0 ⊎ SourcesOver plan N c (E ++ event q x ∷ []))
        (sym (ap (λ u. settled plan.jobs (with u)) t ∙ inside (Out m) false refl))
        (subst (λ l. SourcesOn plan N (turned plan.jobs (with (Out m))) l 0 ⊎ SourcesOver plan N (turned plan.jobs (with (Out m))) l)
        (sym events)
        (choose (closed (opened plan.jobs (with (Out m)))) one (whole_more s.whole s.may g) (keeps_more s.keep s.may g)
        (counted (same_tally (turn_put f.turns f.current (Out m)) f.current s.tallied) s.may s.left (begun_after g) refl (here (Out m)))
        (λ j. ap (λ (tn : ℕ → Turn). tn j) (turns_closed (opened plan.jobs (with (Out m))) ∙ turns_opened plan.jobs (with (Out m)))
        ∙ all j (nat_eq f.current j) refl)))
      where
        all : (j : ℕ) (u : Bool) → nat_eq f.current j ≡ u → turn_put f.turns f.current (Out m) j ≡ Out (put s.st f.current m j)
        all j true e = rw e refl
        all j false e = rw e (s.others j e)

-- the sources begin

count_first : (n : ℕ) (p : ℕ → Bool) → count (suc n) p ≡ (if p 0 then 1 else 0) + count n (λ j. p (suc j))
count_first zero p = refl
count_first (suc n) p = let ih = count_first n p in omega (arith, ih)

busy_count : (jobs : List Job) → length (filter busy jobs) ≡ count (length jobs) (λ j. is_left (begin (get_or jobs j no_job)))
busy_count [] = refl
busy_count (job ∷ jobs) = by job.groups (busy_count jobs)
    ∙ sym (count_first (length jobs) (λ j. is_left (begin (get_or (job ∷ jobs) j no_job))))
  where
    by : (gs : List (List Command)) → length (filter busy jobs) ≡ count (length jobs) (λ j. is_left (begin (get_or jobs j no_job)))
        → length (if not (none gs) then job ∷ filter busy jobs else filter busy jobs)
        ≡ (if is_left (begin_with gs) then 1 else 0) + count (length jobs) (λ j. is_left (begin (get_or jobs j no_job)))
    by [] ih = omega (arith, ih)
    by (c ∷ gs) ih = omega (arith, ih)

pub sources_start : (plan : Plan) (N : ℕ) → 1 ≤ N → SourcesOn plan N (fresh_fleet plan.jobs N) [] 0
    ⊎ SourcesOver plan N (fresh_fleet plan.jobs N) []
sources_start plan N one = subst (λ g. SourcesOn plan N g [] 0 ⊎ SourcesOver plan N g []) first
    (choose {st = begins plan} (fresh_fleet plan.jobs N) one (record { blocks = []; leads = no_more; events = refl })
    (keeps_first plan N) tally (λ j. refl))
  where
    facts : (0 ≤ first_busy 0 plan.jobs) × (first_busy 0 plan.jobs ≤ 0 + length plan.jobs)
        × ((j : ℕ) → 0 ≤ j → j < first_busy 0 plan.jobs → none (source_at plan j).groups ≡ true)
        × (first_busy 0 plan.jobs < 0 + length plan.jobs → none (source_at plan (first_busy 0 plan.jobs)).groups ≡ false)
    facts = first_is 0 plan.jobs (source_at plan) (λ i lt. ap (source_at plan) (omega arith))

    first : selected (fresh_fleet plan.jobs N) 0 ≡ fresh_fleet plan.jobs N
    first = refl

    tally : Tallied plan.jobs N (begins plan) (fresh_fleet plan.jobs N)
    tally = record {
      begun = sym (listed_below (length plan.jobs) 0 (λ j. is_under_way (begins plan j)) (omega arith)
          (λ j le lt. begin_idle (source_at plan j)));
      unended = busy_count plan.jobs;
      window = refl;
      next_in = (let most = facts.1 in omega (arith, most));
      before = λ j lt. fresh_is (source_at plan j) ∙ ap not (facts.2 j (omega arith) lt);
      after = λ j le. refl;
      at_next = λ lt. fresh_is (source_at plan (first_busy 0 plan.jobs)) ∙ ap not (facts.3 (omega (arith, lt)));
    }
