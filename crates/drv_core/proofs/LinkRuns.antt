use Rattle.drv_core.proofs.OneJob.{OnlyOf, own_link, quiet_last}
use Rattle.drv_core.proofs.Outcomes.{any_append}
use Rattle.drv_core.proofs.Tests.{and_false, at_end, or_false}
use Rattle.drv_core.specs.Events.{Block, events_of, failed, none, source_of}
use Rattle.drv_core.specs.Links.{LinksWhere, calls_of, is_work, link_run, some_failed}
use Rattle.drv_core.specs.Story.{Claims, Goes, Kid, Left, Over, Starting, Starts, Story, begin, begin_with, begins, claimed, exited, last}
use Rattle.drv_core.specs.Story.{lost}
use Rattle.drv_core.specs.Story.{more, next, over, refused_first, refused_later, removed, signalled, started, stays, to_claims, to_groups}
use Rattle.drv_core.specs.Story.{unclaimed}
use Rattle.drv_core.specs.Windowed.{Leads, Removals, SourceBlock, Windowed, all_removed, blocks_of, goes_on, is_call_of, link_after}
use Rattle.drv_core.specs.Windowed.{no_more}
use Rattle.drv_core.specs.Windowed.{removed as file_removed, stays as file_stays}
use Rattle.drv_words.specs.Places.{job_at, no_job}
use Rattle.drv_words.specs.declared.plan.Command.{Command}
use Rattle.drv_words.specs.declared.plan.Job.{Job}
use Rattle.drv_words.specs.declared.plan.Plan.{Plan}
use Rattle.drv_words.specs.declared.plan.Temp.{Temp}
use Rattle.drv_words.specs.declared.steps.RunEvent.{RunEvent}
use Rattle.drv_words.specs.declared.steps.Step.{Step}
use Rattle.drv_words.specs.declared.steps.Step.TheVariants as step
use Rattle.std.proofs.Common.{◌≡◌, ◌⊎◌, ◌∙◌, ◌&&◌, ◌||◌, Bool, false, true, List, [], ◌∷◌, ◌++◌, None, Option, Some, ap, arith, get_or}
use Rattle.std.proofs.Common.{if◌then◌else◌}
use Rattle.std.proofs.Common.{inl, inr, length, nat_eq, nat_lt, refl, subst, sym, unwrap_or, ℕ}
use Rattle.std.proofs.lemmas.Bool.Decides.{nat_tests}
use Rattle.std.proofs.lemmas.Cmp.{nat_eq_equiv}
use Rattle.std.specs.List.{list_any}
use Rattle.std.specs.Option.{option_to_list}
use Rattle.std.specs.Prelude.{⊤}

-- For linking_law: a failure in the events of the sources is one of a source, so it is known by all events.

-- an event of job k that is a failure is a claim, start or wait of it
abbrev OwnFailure : ℕ → RunEvent → Type 0
OwnFailure k e = (failed e.answer ≡ false) ⊎ ((p : ℕ → Bool) → is_work p e.step ≡ p k)

abbrev OwnFailures : ℕ → List RunEvent → Type 0
OwnFailures k [] = ⊤
OwnFailures k (e ∷ events) = OwnFailure k e × OwnFailures k events

starts_own : {k g i m : ℕ} {b : Block} {kids : List Kid} {fault : Bool} → Starting k g i m b kids fault → OwnFailures k b
starts_own last = (inl refl, tt)
starts_own (more s) = (inl refl, starts_own s)
starts_own refused_first = (inr (λ p. refl), (inl refl, tt))
starts_own refused_later = (inr (λ p. refl), (inl refl, (inl refl, tt)))

block_own : {k : ℕ} {job : Job} {s m : Left} {b : Block} → Goes k job s b m → OwnFailures k b
block_own (begins d) = block_own d
block_own claimed = (inl refl, tt)
block_own (unclaimed e) = (inr (λ p. refl), (inl refl, tt))
block_own (started s) = starts_own s
block_own exited = (inr (λ p. refl), tt)
block_own signalled = (inr (λ p. refl), (inl refl, tt))
block_own lost = (inr (λ p. refl), (inl refl, tt))
block_own (removed e) = (inl refl, tt)
block_own (stays e) = (inl refl, (inl refl, tt))

-- a failure of a job whose number passes
abbrev fails_of : (ℕ → Bool) → RunEvent → Bool
fails_of p e = is_work p e.step && failed e.answer

own_passes : (k : ℕ) (p : ℕ → Bool) (b : List RunEvent) → OwnFailures k b → p k ≡ true
    → list_any (fails_of p) b ≡ list_any (λ e. failed e.answer) b
own_passes k p [] o e = refl
own_passes k p (x ∷ b) o e = by o.0 (own_passes k p b o.1 e)
  where
    by : OwnFailure k x → list_any (fails_of p) b ≡ list_any (λ e. failed e.answer) b
        → (fails_of p x || list_any (fails_of p) b) ≡ (failed x.answer || list_any (λ e. failed e.answer) b)
    by (inl none_here) ih = rw (none_here, and_false (is_work p x.step)) ih
    by (inr is) ih = rw (is p, e) (ap (λ t. failed x.answer || t) ih)

own_misses : (k : ℕ) (p : ℕ → Bool) (b : List RunEvent) → OwnFailures k b → p k ≡ false → list_any (fails_of p) b ≡ false
own_misses k p [] o e = refl
own_misses k p (x ∷ b) o e = by o.0 (own_misses k p b o.1 e)
  where
    by : OwnFailure k x → list_any (fails_of p) b ≡ false → (fails_of p x || list_any (fails_of p) b) ≡ false
    by (inl none_here) ih = rw (none_here, and_false (is_work p x.step)) ih
    by (inr is) ih = rw (is p, e) ih

sources_pass : {n N : ℕ} {job : ℕ → Job} {st x : ℕ → Left} {bs : List SourceBlock} → Leads n N job st bs x
    → list_any (fails_of (λ j. nat_lt j n)) (events_of (blocks_of bs)) ≡ list_any (λ e. failed e.answer) (events_of (blocks_of bs))
sources_pass no_more = refl
sources_pass {n = n} (goes_on {k = k} {b = b} {bs = bs} may g l) = any_append (fails_of (λ j. nat_lt j n)) b (events_of (blocks_of bs))
    ∙ ap (λ t. t || list_any (fails_of (λ j. nat_lt j n)) (events_of (blocks_of bs)))
    (own_passes k (λ j. nat_lt j n) b (block_own g) (let lt = may.is_source in grind (arith, nat_tests)))
    ∙ ap (λ t. list_any (λ e. failed e.answer) b || t) (sources_pass l)
    ∙ sym (any_append (λ e. failed e.answer) b (events_of (blocks_of bs)))

story_misses : {k : ℕ} {job : Job} {s : Left} {bs : List Block} → Story k job s bs → (p : ℕ → Bool) → p k ≡ false
    → list_any (fails_of p) (events_of bs) ≡ false
story_misses over p e = refl
story_misses {k = k} (next {b = b} {bs = bs} d t) p e = any_append (fails_of p) b (events_of bs)
    ∙ rw (own_misses k p b (block_own d) e) (story_misses t p e)

last_misses : {fs : List _} {last : List RunEvent} → Removals fs last → (p : ℕ → Bool) → list_any (fails_of p) last ≡ false
last_misses all_removed p = refl
last_misses (file_removed e r) p = last_misses r p
last_misses (file_stays e r) p = last_misses r p

pub failed_same : {plan : Plan} {N : ℕ} {E : List RunEvent} (w : Windowed plan N E)
    → some_failed (length plan.jobs) E ≡ list_any (λ e. failed e.answer) (events_of (blocks_of w.blocks))
failed_same {plan = plan} w = ap (list_any f) w.events ∙ any_append f (events_of (blocks_of w.blocks)) (events_of w.link ++ w.last)
    ∙ ap (λ t. list_any f (events_of (blocks_of w.blocks)) || t) (any_append f (events_of w.link) w.last
    ∙ rw (
      story_misses w.link_story (λ j. nat_lt j (length plan.jobs)) (grind (arith, nat_tests)),
      last_misses w.last_removals (λ j. nat_lt j (length plan.jobs)),
    ) refl)
    ∙ or_false (list_any f (events_of (blocks_of w.blocks))) ∙ sources_pass w.leads
  where
    f : RunEvent → Bool
    f = fails_of (λ j. nat_lt j (length plan.jobs))

-- the link's job, by whether a source failed
abbrev link_if : Plan → Bool → Job
link_if plan t = if t then no_job else unwrap_or plan.link no_job

-- the link that is run is known by all events
pub link_same : {plan : Plan} {N : ℕ} {E : List RunEvent} (w : Windowed plan N E)
    → link_after plan (events_of (blocks_of w.blocks)) ≡ link_run plan E
link_same {plan = plan} w = ap (link_if plan) (sym (failed_same w))

-- the link is not run, or it is the job of its number
pub link_or : (plan : Plan) (E : List RunEvent) → (link_after plan E ≡ no_job) ⊎ (link_after plan E ≡ job_at plan (length plan.jobs))
link_or plan E = by (list_any (λ e. failed e.answer) E) plan.link refl
  where
    by : (f : Bool) (l : Option Job) → plan.link ≡ l
        → (link_if plan f ≡ no_job) ⊎ (link_if plan f ≡ job_at plan (length plan.jobs))
    by true l is = inl refl
    by false None is = inl (ap (λ o. unwrap_or o no_job) is)
    by false (Some job) is = inr (ap (λ o. unwrap_or o no_job) is
        ∙ sym (ap (λ o. get_or (plan.jobs ++ option_to_list o) (length plan.jobs) no_job) is ∙ at_end plan.jobs job no_job))

-- calls of a job are of its own steps
calls_only : (k : ℕ) → OnlyOf (λ e. if is_call_of k e.step then e.step ∷ [] else []) k
calls_only k = record { other = λ e h. by e.step h; no_report = λ n t. refl; no_close = refl }
  where
    by : (s : Step) → nat_eq (source_of s) k ≡ false → (if is_call_of k s then s ∷ [] else []) ≡ []
    by (step.Claim p) h = rw h refl
    by (step.Start p from_pipe to_pipe) h = rw h refl
    by s h = refl

-- a first block claims or starts something
abbrev calls_first : Left → Bool
calls_first (Claims i ts) = true
calls_first (Starts g m gs) = true
calls_first s = false

starts_call : {k g i m : ℕ} {b : Block} {kids : List Kid} {fault : Bool} → Starting k g i m b kids fault → (E : List RunEvent)
    → none (calls_of k (b ++ E)) ≡ false
starts_call {k = k} last E = rw (nat_eq_equiv.refl k) refl
starts_call {k = k} (more s) E = rw (nat_eq_equiv.refl k) refl
starts_call {k = k} refused_first E = rw (nat_eq_equiv.refl k) refl
starts_call {k = k} refused_later E = rw (nat_eq_equiv.refl k) refl

block_calls : {k : ℕ} {job : Job} {s m : Left} {b : Block} → Goes k job s b m → calls_first s ≡ true → (E : List RunEvent)
    → none (calls_of k (b ++ E)) ≡ false
block_calls (begins d) e E = absurd cc
block_calls {k = k} claimed e E = rw (nat_eq_equiv.refl k) refl
block_calls {k = k} (unclaimed x) e E = rw (nat_eq_equiv.refl k) refl
block_calls (started s) e E = starts_call s E
block_calls exited e E = absurd cc
block_calls signalled e E = absurd cc
block_calls lost e E = absurd cc
block_calls (removed x) e E = absurd cc
block_calls (stays x) e E = absurd cc

claims_first : (job : Job) (ts : List Temp) → none job.groups ≡ false → calls_first (to_claims job 0 ts) ≡ true
claims_first job (t ∷ ts) e = refl
claims_first job [] e = by job.groups e
  where
    by : (gs : List (List Command)) → none gs ≡ false → calls_first (to_groups 0 gs) ≡ true
    by [] e = absurd cc
    by (c ∷ gs) e = refl

story_calls : (k : ℕ) (job : Job) (bs : List Block) → none job.groups ≡ false → Story k job (begin job) bs
    → none (calls_of k (events_of bs)) ≡ false
story_calls k job bs e t = by job.groups e t
  where
    of_fresh : {s : Left} {cs : List Block} → Story k job s cs → s ≡ begin_with ([] ∷ []) → none (calls_of k (events_of cs)) ≡ false
    of_fresh over is = absurd cc
    of_fresh (next (begins d) t) is = block_calls d (claims_first job job.temps e) _
    of_fresh (next d t) is = absurd cc

    by : (gs : List (List Command)) → none gs ≡ false → Story k job (begin_with gs) bs → none (calls_of k (events_of bs)) ≡ false
    by [] e t = absurd cc
    by (c ∷ gs) e t = of_fresh t refl

-- a job without groups makes no call
idle_calls : (k : ℕ) (bs : List Block) → Story k no_job Over bs → calls_of k (events_of bs) ≡ []
idle_calls k bs over = refl
idle_calls k bs (next d t) = elim d [ ]

pub links_where : (plan : Plan) (N : ℕ) (events : List RunEvent) → Windowed plan N events → LinksWhere plan events
links_where plan N events w = record {
  where_all = λ job is filled. ap none calls ∙ by (some_failed (length plan.jobs) events) refl job is filled;
  without = λ is. calls ∙ idle (some_failed (length plan.jobs) events) is (story refl);
}
  where
    calls : calls_of (length plan.jobs) events ≡ calls_of (length plan.jobs) (events_of w.link)
    calls = own_link (calls_only (length plan.jobs)) w (quiet_last (calls_only (length plan.jobs)) (λ p x. refl) w.last_removals)

    story : {t : Bool} → some_failed (length plan.jobs) events ≡ t
        → Story (length plan.jobs) (link_if plan t) (begin (link_if plan t)) w.link
    story e = subst (λ job. Story (length plan.jobs) job (begin job) w.link) (link_same w ∙ ap (link_if plan) e) w.link_story

    by : (t : Bool) → some_failed (length plan.jobs) events ≡ t → (job : Job) → plan.link ≡ Some job → none job.groups ≡ false
        → none (calls_of (length plan.jobs) (events_of w.link)) ≡ t
    by true e job is filled = ap none (idle_calls (length plan.jobs) w.link (story e))
    by false e job is filled = story_calls (length plan.jobs) job w.link filled
        (subst (λ l. Story (length plan.jobs) (unwrap_or l no_job) (begin (unwrap_or l no_job)) w.link) is (story e))

    idle : (t : Bool) → plan.link ≡ None → Story (length plan.jobs) (link_if plan t) (begin (link_if plan t)) w.link
        → calls_of (length plan.jobs) (events_of w.link) ≡ []
    idle true is t = idle_calls (length plan.jobs) w.link t
    idle false is t = idle_calls (length plan.jobs) w.link
        (subst (λ l. Story (length plan.jobs) (unwrap_or l no_job) (begin (unwrap_or l no_job)) w.link) is t)
