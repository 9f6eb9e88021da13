use Rattle.drv_core.proofs.Claimed.{Runs, runs_before, swept_due}
use Rattle.drv_core.proofs.Counting.{count_some, same}
use Rattle.drv_core.proofs.Ending.{EndAt, LinkAt, LinkOn, Tells, done_is_whole, end_more, end_starts, link_at, link_begins, link_closed}
use Rattle.drv_core.proofs.Ending.{link_starts}
use Rattle.drv_core.proofs.Ending.{link_takes, removals_begin, report_begins, tells, whole_from}
use Rattle.drv_core.proofs.Finish.{Cleared, begun_claims, clash, clears, ended}
use Rattle.drv_core.proofs.Rooms.{taken_same}
use Rattle.drv_core.proofs.Running.{sources_begin}
use Rattle.drv_core.proofs.Sources.{SourcesOn, SourcesOver, sources_start, sources_take}
use Rattle.drv_core.proofs.Tests.{some_is}
use Rattle.drv_core.proofs.Whole.{none_is_longer}
use Rattle.drv_core.specs.Choices.{is_step_of}
use Rattle.drv_core.specs.Code.Course.{Course, Done, Link, Phase, Removals, Report, Sources, after_link, after_sources, asked_by}
use Rattle.drv_core.specs.Code.Course.{fresh_course, link_job, linking}
use Rattle.drv_core.specs.Code.Course.{removed as removal_made, removes_first, removing, reports_first, sourced, stays_there, stepped}
use Rattle.drv_core.specs.Code.Course.{stepped_at}
use Rattle.drv_core.specs.Code.Fleet.{fresh_fleet, taken}
use Rattle.drv_core.specs.Code.Leftovers.{claims_in, swept}
use Rattle.drv_core.specs.Code.Machine.{At, In, Out, Turn, asked, closed, first_begun, is_kind, opened, took}
use Rattle.drv_core.specs.Code.Turns.{is_left as more_left}
use Rattle.drv_core.specs.Codes.{greatest_code}
use Rattle.drv_core.specs.Events.{Block, event, answer_code, failed, none, positive, removal_failed, removes, reports}
use Rattle.drv_core.specs.Story.{Claims, Fresh, Left, Over, Removes, Starts, Waits, begin, begin_with, to_claims, to_groups}
use Rattle.drv_core.specs.Windowed.{IsBeginning, Removals as Removed, Windowed, due, is_fresh, is_left, link_after, removed, stays}
use Rattle.drv_words.specs.Places.{no_job}
use Rattle.drv_words.specs.declared.answers.Answer.{Answer}
use Rattle.drv_words.specs.declared.answers.Answer.TheVariants as answer
use Rattle.drv_words.specs.declared.answers.ClaimAnswer.TheVariants.{Taken}
use Rattle.drv_words.specs.declared.answers.NotStarted.TheVariants.{Other}
use Rattle.drv_words.specs.declared.answers.RemoveAnswer.TheVariants.{Missing}
use Rattle.drv_words.specs.declared.answers.StartAnswer.TheVariants.{NotStarted}
use Rattle.drv_words.specs.declared.answers.WaitAnswer.TheVariants.{Lost}
use Rattle.drv_words.specs.declared.plan.Command.{Command}
use Rattle.drv_words.specs.declared.plan.Temp.{Temp}
use Rattle.drv_words.specs.declared.plan.Job.{Job}
use Rattle.drv_words.specs.declared.plan.Plan.{Plan}
use Rattle.drv_words.specs.declared.steps.Note.TheVariants as note
use Rattle.drv_words.specs.declared.steps.Place.{Place}
use Rattle.drv_words.specs.declared.steps.RunEvent.{RunEvent}
use Rattle.drv_words.specs.declared.steps.Step.{Step}
use Rattle.drv_words.specs.declared.steps.Step.TheVariants as step
use Rattle.std.proofs.Common.{◌≡◌, ◌≤◌, ◌∙◌, ◌⊎◌, ◌||◌, Bool, false, true, List, [], ◌∷◌, ◌++◌, None, Option, Some, ap, append_assoc, arith}
use Rattle.std.proofs.Common.{drop, if◌then◌else◌}
use Rattle.std.proofs.Common.{inl, inr, length, max, nat_eq, refl, subst, suc, sym, unwrap_or, zero, ℕ}
use Rattle.std.proofs.lemmas.Bool.Decides.{nat_tests}
use Rattle.std.proofs.lemmas.Cmp.{nat_eq_equiv}
use Rattle.std.specs.List.{list_any}

-- A run, as the code goes through it, from its first step to its last.

-- the link goes on, after the sources, whose events are `A`
pub record LinkGoes (plan : Plan) (N : ℕ) (c : Course) : Type 0 where
  pub A : List RunEvent
  pub on : LinkOn plan N c.events A c.link
  pub runs : link_after plan A ≡ link_job plan
  pub left : more_left c.link ≡ true

-- the report of a failed removal comes
pub record Told (plan : Plan) (N : ℕ) (c : Course) : Type 0 where
  pub p : Place
  pub ps : List Place
  pub due : c.due ≡ p ∷ ps
  pub at : EndAt plan N c.events (Tells p ps)

abbrev pub OnAt : Plan → ℕ → Phase → Course → ℕ → Type 0
OnAt plan N Sources c i = SourcesOn plan N c.fleet c.events i × (c.link ≡ Out (begin (link_job plan)))
OnAt plan N Link c i = LinkGoes plan N c
OnAt plan N Removals c i = EndAt plan N c.events (Removed c.due) × (none c.due ≡ false)
OnAt plan N Report c i = Told plan N c
OnAt plan N Done c i = EndAt plan N c.events (Removed [])

-- what holds of every run of the code
pub record On (plan : Plan) (N : ℕ) (c : Course) (i : ℕ) : Type 0 where
  pub at : OnAt plan N c.phase c i

-- in this phase
in_phase : {plan : Plan} {N i : ℕ} {c : Course} (p : Phase) → c.phase ≡ p → OnAt plan N p c i → On plan N c i
in_phase {plan = plan} {N = N} {i = i} {c = c} p e h = record { at = subst (λ q. OnAt plan N q c i) (sym e) h }

-- files are removed, or nothing is left
removing_on : {plan : Plan} {N : ℕ} (c : Course) (ps : List Place) → EndAt plan N c.events (Removed ps) → On plan N (removing c ps) 0
removing_on c [] h = record { at = h }
removing_on c (p ∷ ps) h = record { at = (h, refl) }

-- before the removals the claims of each job are in order
claims_run : {plan : Plan} {N : ℕ} {E A : List RunEvent} → LinkAt plan N E A Over → (k : ℕ) → Runs 0 (claims_in k E)
claims_run {plan = plan} {E = E} l k =
    let c : Cleared (due plan E) = clears (due plan E) in runs_before E c.events (whole_from c.events l c.removals) c.removals k

-- after the link
after_link_on : {plan : Plan} {N : ℕ} {A : List RunEvent} (c : Course) → LinkAt plan N c.events A Over → On plan N (after_link plan c) 0
after_link_on {plan = plan} {N = N} c l = removing_on c (swept plan c.events)
    (subst (λ ps. EndAt plan N c.events (Removed ps)) (sym (swept_due plan c.events (claims_run l))) (end_starts l))

-- the link goes on, or is over
linking_on : {plan : Plan} {N : ℕ} {A : List RunEvent} (c : Course) → LinkOn plan N c.events A c.link → link_after plan A ≡ link_job plan
    → On plan N (linking plan c) 0
linking_on {plan = plan} {N = N} {A = A} c l runs = by (more_left c.link) refl c.link refl
  where
    by : (t : Bool) → more_left c.link ≡ t → (u : Turn) → c.link ≡ u
        → On plan N (if t then record c { phase = Link } else after_link plan c) 0
    by true e u is = record { at = record { A = A; on = l; runs = runs; left = e } }
    by false e (In p) is = clash refl (sym (ap more_left is) ∙ e)
    by false e (Out m) is = after_link_on c (subst (λ s. LinkAt plan N c.events A s) (ended m (sym (ap more_left is) ∙ e))
        (link_at (subst (λ u. LinkOn plan N c.events A u) is l)))

-- whether something failed, by the greatest code
max_positive : (a b : ℕ) → positive (max a b) ≡ (positive a || positive b)
max_positive zero b = ap positive (let e : max 0 b ≡ b = omega arith in e)
max_positive (suc a) b = by (max (suc a) b) (let some : 1 ≤ max (suc a) b = omega arith in some)
  where
    by : (n : ℕ) → 1 ≤ n → positive n ≡ true
    by zero lt = absurd (omega (arith, lt))
    by (suc n) lt = refl

any_failed : (E : List RunEvent) → list_any (λ e. failed e.answer) E ≡ positive (greatest_code E)
any_failed [] = refl
any_failed (e ∷ E) = ap (λ t. failed e.answer || t) (any_failed E) ∙ sym (max_positive (answer_code e.answer) (greatest_code E))

zero_code : (n : ℕ) (t : Bool) → nat_eq n 0 ≡ t → positive n ≡ (if t then false else true)
zero_code zero true e = refl
zero_code zero false e = absurd (let z : nat_eq 0 0 ≡ true = refl in let no : true ≡ false = sym z ∙ e in cc)
zero_code (suc n) false e = refl
zero_code (suc n) true e = absurd (let z : suc n ≡ 0 = grind (arith, nat_tests) in omega (arith, z))

-- after the sources
after_sources_on : {plan : Plan} {N : ℕ} (c : Course) → SourcesOver plan N c.fleet c.events → c.link ≡ Out (begin (link_job plan))
    → On plan N (after_sources plan c) 0
after_sources_on {plan = plan} {N = N} c s link = by (nat_eq (greatest_code c.events) 0) refl
  where
    starts : LinkAt plan N c.events c.events (begin (link_after plan c.events))
    starts = link_starts s.whole s.ended

    link_is : (t : Bool) → nat_eq (greatest_code c.events) 0 ≡ t → link_after plan c.events ≡ (if t then link_job plan else no_job)
    link_is t e = ap (λ (u : Bool). if u then no_job else unwrap_or plan.link no_job) (any_failed c.events
        ∙ zero_code (greatest_code c.events) t e) ∙ turn t
      where
        turn : (t : Bool) → (if (if t then false else true) then no_job else unwrap_or plan.link no_job)
            ≡ (if t then link_job plan else no_job)
        turn true = refl
        turn false = refl

    by : (t : Bool) → nat_eq (greatest_code c.events) 0 ≡ t → On plan N (if t then linking plan c else after_link plan c) 0
    by true e = linking_on c (subst (λ u. LinkOn plan N c.events c.events u) (sym link)
        (subst (λ job. LinkOn plan N c.events c.events (Out (begin job))) (link_is true e) (link_closed starts))) (link_is true e)
    by false e = after_link_on c (subst (λ job. LinkAt plan N c.events c.events (begin job)) (link_is false e) starts)

-- the sources go on, or are over
sourced_on : {plan : Plan} {N : ℕ} (c : Course) → c.phase ≡ Sources → c.link ≡ Out (begin (link_job plan))
    → SourcesOn plan N c.fleet c.events 0 ⊎ SourcesOver plan N c.fleet c.events → On plan N (sourced plan c) 0
sourced_on {plan = plan} {N = N} c phase link h = by (nat_eq c.fleet.unended 0) refl h
  where
    by : (t : Bool) → nat_eq c.fleet.unended 0 ≡ t → SourcesOn plan N c.fleet c.events 0 ⊎ SourcesOver plan N c.fleet c.events
        → On plan N (if t then after_sources plan c else c) 0
    by true e (inr s) = after_sources_on c s link
    by false e (inl s) = in_phase Sources phase (s, link)
    by true e (inl s) = absurd (let some = count_some (length plan.jobs) c.fleet.current (λ j. is_left (s.st j)) s.may.is_source s.left in
        let all = s.tallied.unended in let z = same c.fleet.unended 0 e in omega (arith, some, all, z))
    by false e (inr s) = clash (ap (λ n. nat_eq n 0) s.unended) e

-- the run begins
pub fresh_on : (plan : Plan) (N : ℕ) → 1 ≤ N → On plan N (fresh_course plan N) 0
fresh_on plan N one = sourced_on (record {
  phase = Sources;
  fleet = fresh_fleet plan.jobs N;
  link = Out (begin (link_job plan));
  due =
      [];
  events = [];
})
    refl refl (sources_start plan N one)

-- Each answer keeps it.

-- the answer to a removal
removal_on : {plan : Plan} {N : ℕ} (c : Course) (x : Answer) (q : Step) (p : Place) (ps : List Place) → c.due ≡ p ∷ ps
    → EndAt plan N c.events (Removed (p ∷ ps)) → step.Remove p ≡ q → is_kind q x ≡ true
    → On plan N (removal_made (record c { phase = Removals; events = c.events ++ event q x ∷ [] }) x) 0
removal_on {plan = plan} {N = N} c (answer.Remove x) q p ps files d is e = here (removal_failed x) refl
  where
    grown : (t : List RunEvent → Type 0) → EndAt plan N (c.events ++ removes p x ∷ []) t
        → EndAt plan N (c.events ++ event q (answer.Remove x) ∷ []) t
    grown t = subst (λ s. EndAt plan N (c.events ++ event s (answer.Remove x) ∷ []) t) is

    here : (t : Bool) → removal_failed x ≡ t
        → On plan N (if t then record c { phase = Report; events = c.events ++ event q (answer.Remove x) ∷ [] }
        else removing (record c { phase = Removals; events = c.events ++ event q (answer.Remove x) ∷ [] }) (drop 1 c.due)) 0
    here true h = record {
      at = record { p = p; ps = ps; due = files; at = grown (Tells p ps) (end_more (removes p x) d (λ xs r. told r)) };
    }
      where
        told : {xs : List RunEvent} → Tells p ps xs → Removed (p ∷ ps) (removes p x ∷ xs)
        told (tells r) = stays h r
    here false h = removing_on (record c { phase = Removals; events = c.events ++ event q (answer.Remove x) ∷ [] })
        (drop 1 c.due) (subst (λ l. EndAt plan N (c.events ++ event q (answer.Remove x) ∷ []) (Removed (drop 1 l))) (sym files)
        (grown (Removed ps) (end_more (removes p x) d (λ xs r. removed h r))))
removal_on c x q p ps files d is e = absurd cc

-- the answer to a report
told_on : {plan : Plan} {N : ℕ} {E : List RunEvent} (x : Answer) (q : Step) (p : Place) (ps : List Place) → EndAt plan N E (Tells p ps)
    → step.Report (note.NotRemoved p) ≡ q → is_kind q x ≡ true → EndAt plan N (E ++ event q x ∷ []) (Removed ps)
told_on {plan = plan} {N = N} {E = E} (answer.Reported u) q p ps d is e =
    subst (λ s. EndAt plan N (E ++ event s (answer.Reported u) ∷ []) (Removed ps)) is
    (end_more (reports (note.NotRemoved p) u) d (λ xs r. tells r))
told_on x q p ps d is e = absurd cc

pub stepped_on : {plan : Plan} {N i : ℕ} {q : Step} (c : Course) (x : Answer) → 1 ≤ N → On plan N c i → asked_by plan c ≡ Some q
    → is_kind q x ≡ true → On plan N (stepped plan c q x) 0
stepped_on {plan = plan} {N = N} {i = i} {q = q} c x one h is e = by c.phase refl h.at is
  where
    by : (p : Phase) → c.phase ≡ p → OnAt plan N p c i → asked_by plan (record c { phase = p }) ≡ Some q
        → On plan N (stepped plan (record c { phase = p }) q x) 0
    by Sources ph s is = sourced_on (record c { phase = Sources; events = c.events ++ event q x ∷ []; fleet = taken plan.jobs c.fleet x })
        refl s.1 (sources_take x one s.0 is e)
    by Link ph l is = linking_on (record c { phase = Link; events = c.events ++ event q x ∷ []; link = took (link_job plan) c.link x })
        (subst (λ job. LinkOn plan N (c.events ++ event q x ∷ []) l.A (took job c.link x)) l.runs
        (link_takes x l.on (subst (λ job. asked (length plan.jobs) job c.link ≡ Some q) (sym l.runs) is) e)) l.runs
    by Removals ph d is = on_removal c.due refl d.1
      where
        on_removal : (ps : List Place) → c.due ≡ ps → none c.due ≡ false → On plan N (stepped plan (record c { phase = Removals }) q x) 0
        on_removal [] files some = clash (ap none files) some
        on_removal (p ∷ ps) files some = removal_on c x q p ps files (subst (λ l. EndAt plan N c.events (Removed l)) files d.0)
            (some_is (sym (ap removes_first files) ∙ is)) e
    by Report ph t is = removing_on (record c { phase = Report; events = c.events ++ event q x ∷ [] })
        (drop 1 c.due) (subst (λ l. EndAt plan N (c.events ++ event q x ∷ []) (Removed (drop 1 l))) (sym t.due)
        (told_on x q t.p t.ps t.at (some_is (sym (ap reports_first t.due) ∙ is)) e))
    by Done ph d is = absurd cc

-- What callers see of it.

-- the events are the beginning of a whole run
pub on_begins : {plan : Plan} {N i : ℕ} (c : Course) → 1 ≤ N → On plan N c i → IsBeginning plan N c.events
on_begins {plan = plan} {N = N} {i = i} c one h = by c.phase h.at
  where
    by : (p : Phase) → OnAt plan N p c i → IsBeginning plan N c.events
    by Sources s = subst (λ l. IsBeginning plan N l) (sym s.0.events) (sources_begin one s.0.whole s.0.may s.0.at)
    by Link l = link_begins l.on
    by Removals d = removals_begin d.0
    by Report t = report_begins t.at
    by Done d = removals_begin d

-- an answer of the kind of a step
abbrev answer_for : Step → Answer
answer_for (step.Claim p) = answer.Claim Taken
answer_for (step.Start p from_pipe to_pipe) = answer.Start (NotStarted Other)
answer_for step.ClosePipe = answer.Closed
answer_for (step.Wait p id) = answer.Wait Lost
answer_for (step.Remove p) = answer.Remove Missing
answer_for (step.Report n) = answer.Reported false

answers : (q : Step) → is_kind q (answer_for q) ≡ true
answers (step.Claim p) = refl
answers (step.Start p from_pipe to_pipe) = refl
answers step.ClosePipe = refl
answers (step.Wait p id) = refl
answers (step.Remove p) = refl
answers (step.Report n) = refl

-- with the events and the sources of another
abbrev pub Alike : Course → Course → Type 0
Alike c d = (c.events ≡ d.events) × (c.fleet ≡ d.fleet)

linking_same : (plan : Plan) (d : Course) → Alike (linking plan d) d
linking_same plan d = by (more_left d.link)
  where
    by : (t : Bool) → Alike (if t then record d { phase = Link } else after_link plan d) d
    by true = (refl, refl)
    by false = (refl, refl)

pub sourced_same : (plan : Plan) (d : Course) → Alike (sourced plan d) d
sourced_same plan d = by (nat_eq d.fleet.unended 0)
  where
    after : (t : Bool) → Alike (if t then linking plan d else after_link plan d) d
    after true = linking_same plan d
    after false = (refl, refl)

    by : (t : Bool) → Alike (if t then after_sources plan d else d) d
    by true = after (nat_eq (greatest_code d.events) 0)
    by false = (refl, refl)

-- an answer is one event more, in the same window
pub grows : (plan : Plan) (c : Course) (q : Step) (x : Answer)
    → ((stepped plan c q x).events ≡ c.events ++ event q x ∷ []) × ((stepped plan c q x).fleet.window ≡ c.fleet.window)
grows plan c q x = by c.phase
  where
    new : Course
    new = record c { events = c.events ++ event q x ∷ [] }

    Grown : Course → Type 0
    Grown d = (d.events ≡ c.events ++ event q x ∷ []) × (d.fleet.window ≡ c.fleet.window)

    by : (p : Phase) → Grown (stepped_at plan p new x)
    by Sources =
        let same = sourced_same plan (record new { fleet = taken plan.jobs c.fleet x }) in
        (same.0, ap (λ f. f.window) same.1 ∙ (taken_same plan.jobs c.fleet x).0)
    by Link =
        let same = linking_same plan (record new { link = took (link_job plan) c.link x }) in (same.0, ap (λ f. f.window) same.1)
    by Removals = gone (stays_there x)
      where
        gone : (t : Bool) → Grown (if t then record new { phase = Report } else removing new (drop 1 c.due))
        gone true = (refl, refl)
        gone false = (refl, refl)
    by Report = (refl, refl)
    by Done = (refl, refl)

-- with one event more, of the next step, they are such a beginning too
pub record Further (plan : Plan) (N : ℕ) (E : List RunEvent) (q : Step) : Type 0 where
  pub x : Answer
  pub rest : List RunEvent
  pub whole : Windowed plan N (E ++ event q x ∷ rest)

pub goes_further : {plan : Plan} {N i : ℕ} {q : Step} (c : Course) → 1 ≤ N → On plan N c i → asked_by plan c ≡ Some q
    → Further plan N c.events q
goes_further {plan = plan} {N = N} {q = q} c one h is =
    by (on_begins (stepped plan c q (answer_for q)) one (stepped_on c (answer_for q) one h is (answers q)))
  where
    by : IsBeginning plan N (stepped plan c q (answer_for q)).events → Further plan N c.events q
    by b = record {
      x = answer_for q;
      rest = b.rest;
      whole = subst (λ l. Windowed plan N l) (ap (λ l. l ++ b.rest) (grows plan c q (answer_for q)).0
          ∙ append_assoc c.events (event q (answer_for q) ∷ []) b.rest) b.whole;
    }

-- so the run is not whole while there is a next step
pub unfinished : {plan : Plan} {N i : ℕ} {q : Step} (c : Course) → 1 ≤ N → On plan N c i → asked_by plan c ≡ Some q
    → Windowed plan N c.events → ⊥
unfinished {plan = plan} {N = N} {q = q} c one h is w = by (goes_further c one h is)
  where
    by : Further plan N c.events q → ⊥
    by f = absurd (let no : event q f.x ∷ f.rest ≡ [] = none_is_longer plan N N c.events (event q f.x ∷ f.rest) w f.whole in cc)

-- a source, or the link, that has more to do has a next step, at one of its places
pub record NextStep (k : ℕ) (o : Option Step) : Type 0 where
  pub step : Step
  pub is : o ≡ Some step
  pub own : is_step_of k step ≡ true

begun_step : (k : ℕ) (s : Left) → is_fresh s ≡ false → is_left s ≡ true → NextStep k (first_begun k s)
begun_step k Fresh f l = absurd cc
begun_step k (Claims i ts) f l = record { step = _; is = refl; own = nat_eq_equiv.refl k }
begun_step k (Starts g m gs) f l = record { step = _; is = refl; own = nat_eq_equiv.refl k }
begun_step k (Waits g fault kid kids gs) f l = record { step = _; is = refl; own = nat_eq_equiv.refl k }
begun_step k (Removes i fs) f l = record { step = _; is = refl; own = nat_eq_equiv.refl k }
begun_step k Over f l = absurd cc

pub first_step : (k : ℕ) (job : Job) (s : Left) → (is_fresh s ≡ true → is_fresh (begin job) ≡ true) → is_left s ≡ true
    → NextStep k (asked k job (Out s))
first_step k job Fresh sound l = begun_step k (to_claims job 0 job.temps) (begun_claims job 0 job.temps) (claims job.temps)
  where
    groups : (gs : List (List Command)) → is_fresh (begin_with gs) ≡ true → is_left (to_groups 0 gs) ≡ true
    groups [] e = absurd cc
    groups (c ∷ gs) e = refl

    claims : (ts : List Temp) → is_left (to_claims job 0 ts) ≡ true
    claims [] = groups job.groups (sound refl)
    claims (t ∷ ts) = refl
first_step k job Over sound l = absurd cc
first_step k job s sound l = begun_step k s refl l

none_at : {k : ℕ} {job : Job} {s : Left} {o : Block} {t : Turn} → At k job s o t → (is_fresh s ≡ true → is_fresh (begin job) ≡ true)
    → is_left s ≡ true → asked k job t ≡ None → ⊥
none_at {k = k} {job = job} {s = s} closed sound l e = by (first_step k job s sound l)
  where
    by : NextStep k (asked k job (Out s)) → ⊥
    by f = absurd (let no : Some f.step ≡ None = sym f.is ∙ e in cc)
none_at (opened h) sound l e = absurd cc

turn_none : {k : ℕ} {job : Job} {s : Left} {o : Block} {t : Turn} → At k job s o t → (is_fresh s ≡ true → is_fresh (begin job) ≡ true)
    → more_left t ≡ true → asked k job t ≡ None → ⊥
turn_none {k = k} {job = job} {s = s} closed sound l e = none_at {k = k} {job = job} {s = s} closed sound l e
turn_none (opened h) sound l e = absurd cc

-- without a next step the run is whole
pub done_whole : {plan : Plan} {N i : ℕ} (c : Course) → On plan N c i → asked_by plan c ≡ None → Windowed plan N c.events
done_whole {plan = plan} {N = N} {i = i} c h e = by c.phase h.at e
  where
    by : (p : Phase) → OnAt plan N p c i → asked_by plan (record c { phase = p }) ≡ None → Windowed plan N c.events
    by Sources s e = absurd (none_at s.0.at (s.0.keep.sound c.fleet.current) s.0.left e)
    by Link l e = absurd (turn_none l.on.at l.on.link.sound l.left
        (subst (λ job. asked (length plan.jobs) job c.link ≡ None) (sym l.runs) e))
    by Removals d e = none_left c.due d.1 e
      where
        none_left : (ps : List Place) → none ps ≡ false → removes_first ps ≡ None → Windowed plan N c.events
        none_left [] some e = absurd cc
        none_left (p ∷ ps) some e = absurd cc
    by Report t e = absurd (let no : Some (step.Report (note.NotRemoved t.p)) ≡ None = sym (ap reports_first t.due) ∙ e in cc)
    by Done d e = done_is_whole d
