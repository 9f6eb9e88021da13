use Rattle.drv_core.proofs.Counting.{is_less, is_not_less, same}
use Rattle.drv_core.proofs.OneJob.{OnlyOf, of_beyond, one_source}
use Rattle.drv_core.proofs.Serial.{Ran, serial_runs}
use Rattle.drv_core.specs.Events.{Block, events_of, failed, job_of, source_of}
use Rattle.drv_core.specs.Serial.{Rearranges, SameOutcomes, StartsTheSame, blocks_with, by_source, is_at, outcome, serial}
use Rattle.drv_core.specs.Started.{act_of, starts_of}
use Rattle.drv_core.specs.Story.{Left, Story, begin}
use Rattle.drv_core.specs.Windowed.{Leads, Removals, SourceBlock, Windowed, all_files, begins, blocks_of, due, each_once, goes_on}
use Rattle.drv_core.specs.Windowed.{has_claimed, is_call_of, is_due, link_after, no_more, of, source_at}
use Rattle.drv_words.specs.declared.answers.Answer.{Answer}
use Rattle.drv_words.specs.declared.answers.Answer.TheVariants as answer
use Rattle.drv_words.specs.declared.answers.StartAnswer.TheVariants as start
use Rattle.drv_words.specs.declared.plan.Job.{Job}
use Rattle.drv_words.specs.declared.plan.Plan.{Plan}
use Rattle.drv_words.specs.declared.steps.Place.{Place}
use Rattle.drv_words.specs.declared.steps.Place.TheVariants as place
use Rattle.drv_words.specs.declared.steps.RunEvent.{RunEvent}
use Rattle.drv_words.specs.declared.steps.Step.{Step}
use Rattle.drv_words.specs.declared.steps.Step.TheVariants as step
use Rattle.std.proofs.Common.{◌≡◌, ◌<◌, ◌≤◌, ◌+◌, ◌∙◌, ◌||◌, Bool, false, true, List, [], ◌∷◌, ◌++◌, ap, append-nil, arith, if◌then◌else◌}
use Rattle.std.proofs.Common.{length}
use Rattle.std.proofs.Common.{nat_eq, nat_lt, refl, subst, suc, sym, zero, ℕ}
use Rattle.std.proofs.lemmas.Bool.Decides.{nat_tests}
use Rattle.std.proofs.lemmas.Grind.{flat_map-append}
use Rattle.std.specs.List.{filter, flat_map, list_any}
use Rattle.std.specs.Prelude.{map}

-- A run taken source by source has the same events in another order, so the same is due after it.

pub any_append : {X : Type 0} (f : X → Bool) (xs ys : List X) → list_any f (xs ++ ys) ≡ (list_any f xs || list_any f ys)
any_append f [] ys = refl
any_append f (x ∷ xs) ys = by (f x) (any_append f xs ys)
  where
    by : (t : Bool) → list_any f (xs ++ ys) ≡ (list_any f xs || list_any f ys) → (t || list_any f (xs ++ ys))
        ≡ ((t || list_any f xs) || list_any f ys)
    by true e = refl
    by false e = e

-- whether some event of blocks passes
abbrev some : (RunEvent → Bool) → List Block → Bool
some f bs = list_any f (events_of bs)

-- the same, source by source, of m sources from number k on
abbrev some_by : (RunEvent → Bool) → ℕ → ℕ → List SourceBlock → Bool
some_by f k zero bs = false
some_by f k (suc m) bs = some f (of k bs) || some_by f (k + 1) m bs

blocks_with_are : (k : ℕ) (bs : List Block) (cs : List SourceBlock) → blocks_of (blocks_with k bs ++ cs) ≡ bs ++ blocks_of cs
blocks_with_are k [] cs = refl
blocks_with_are k (b ∷ bs) cs = ap (λ l. b ∷ l) (blocks_with_are k bs cs)

some_append : (f : RunEvent → Bool) (bs cs : List Block) → some f (bs ++ cs) ≡ (some f bs || some f cs)
some_append f [] cs = refl
some_append f (b ∷ bs) cs = any_append f b (events_of (bs ++ cs)) ∙ ap (λ t. list_any f b || t) (some_append f bs cs)
    ∙ assoc (list_any f b) ∙ ap (λ t. t || some f cs) (sym (any_append f b (events_of bs)))
  where
    assoc : (t : Bool) → (t || (some f bs || some f cs)) ≡ ((t || some f bs) || some f cs)
    assoc true = refl
    assoc false = refl

by_source_some : (f : RunEvent → Bool) (k m : ℕ) (bs : List SourceBlock) → some f (blocks_of (by_source k m bs)) ≡ some_by f k m bs
by_source_some f k zero bs = refl
by_source_some f k (suc m) bs = ap (some f) (blocks_with_are k (of k bs) (by_source (k + 1) m bs))
    ∙ some_append f (of k bs) (blocks_of (by_source (k + 1) m bs)) ∙ ap (λ t. some f (of k bs) || t) (by_source_some f (k + 1) m bs)

-- a block of a source that is not among them changes nothing
some_without : (f : RunEvent → Bool) (k m : ℕ) (b : SourceBlock) (bs : List SourceBlock) → b.source < k
    → some_by f k m (b ∷ bs) ≡ some_by f k m bs
some_without f k zero b bs lt = refl
some_without f k (suc m) b bs lt =
    let e : nat_eq b.source k ≡ false = grind (arith, nat_tests) in
    rw e (ap (λ t. some f (of k bs) || t) (some_without f (k + 1) m b bs (omega (arith, lt))))

-- a block of one of them counts
some_with : (f : RunEvent → Bool) (k m : ℕ) (b : SourceBlock) (bs : List SourceBlock) → k ≤ b.source → b.source < k + m
    → some_by f k m (b ∷ bs) ≡ (list_any f b.block || some_by f k m bs)
some_with f k zero b bs le lt = absurd (omega (arith, le, lt))
some_with f k (suc m) b bs le lt = by (nat_eq b.source k) refl (λ up. some_with f (k + 1) m b bs up (omega (arith, lt)))
  where
    swap : (s t u : Bool) → (s || (t || u)) ≡ (t || (s || u))
    swap true true u = refl
    swap true false u = refl
    swap false t u = refl

    assoc : (s t u : Bool) → ((s || t) || u) ≡ (s || (t || u))
    assoc true t u = refl
    assoc false t u = refl

    by : (t : Bool) → nat_eq b.source k ≡ t
        → (k + 1 ≤ b.source → some_by f (k + 1) m (b ∷ bs) ≡ (list_any f b.block || some_by f (k + 1) m bs))
        → (some f (if t then b.block ∷ of k bs else of k bs) || some_by f (k + 1) m (b ∷ bs))
        ≡ (list_any f b.block || (some f (of k bs) || some_by f (k + 1) m bs))
    by true e ih =
        let is : b.source ≡ k = same b.source k e in
        ap (λ t. t || some_by f (k + 1) m (b ∷ bs)) (any_append f b.block (events_of (of k bs)))
        ∙ ap (λ t. (list_any f b.block || some f (of k bs)) || t) (some_without f (k + 1) m b bs (omega (arith, is)))
        ∙ assoc (list_any f b.block) (some f (of k bs)) (some_by f (k + 1) m bs)
    by false e ih = ap (λ t. some f (of k bs) || t) (ih (grind (arith, nat_tests)))
        ∙ swap (some f (of k bs)) (list_any f b.block) (some_by f (k + 1) m bs)

some_none : (f : RunEvent → Bool) (k m : ℕ) → some_by f k m [] ≡ false
some_none f k zero = refl
some_none f k (suc m) = some_none f (k + 1) m

-- the blocks of a run, source by source, have the same events
some_same : {n N : ℕ} {job : ℕ → Job} {st x : ℕ → Left} {bs : List SourceBlock} → Leads n N job st bs x → (f : RunEvent → Bool)
    → some f (blocks_of bs) ≡ some_by f 0 n bs
some_same {n = n} no_more f = sym (some_none f 0 n)
some_same {n = n} (goes_on {k = k} {b = b} {bs = bs} may g l) f = any_append f b (events_of (blocks_of bs))
    ∙ ap (λ t. list_any f b || t) (some_same l f)
    ∙ sym (some_with f 0 n (record { source = k; block = b }) bs (omega arith) (let lt = may.is_source in omega (arith, lt)))

-- Events of which the same tests pass.
abbrev SameTests : List RunEvent → List RunEvent → Type 0
SameTests xs ys = (f : RunEvent → Bool) → list_any f xs ≡ list_any f ys

due_at : (xs ys : List RunEvent) → SameTests xs ys → (p : Place) → is_due xs p ≡ is_due ys p
due_at xs ys tests (place.Temp k i) = tests (λ e. has_claimed k i e.step e.answer)
due_at xs ys tests (place.Marked k i) = tests (λ e. is_call_of k e.step)
due_at xs ys tests p = refl

filter_same : {X : Type 0} (p q : X → Bool) (xs : List X) → ((x : X) → p x ≡ q x) → filter p xs ≡ filter q xs
filter_same p q [] e = refl
filter_same p q (x ∷ xs) e = rw (e x, filter_same p q xs e) refl

due_same : (xs ys : List RunEvent) → SameTests xs ys → (plan : Plan) → due plan xs ≡ due plan ys
due_same xs ys tests plan = ap (λ fs. map (λ f. f.place) (each_once [] fs))
    (filter_same (λ f. is_due xs f.place) (λ f. is_due ys f.place) (all_files plan) (λ f. due_at xs ys tests f.place))

pub rearranges : Rearranges
rearranges plan N E w = record {
  blocks = by_source 0 (length plan.jobs) w.blocks;
  ends = ran.ends;
  link = w.link;
  last = w.last;
  events = refl;
  leads = ran.leads;
  ended = ran.ended;
  link_story = subst (λ j. Story (length plan.jobs) j (begin j) w.link) link_same w.link_story;
  last_removals = subst (λ fs. Removals fs w.last) (due_same _ _ all plan) w.last_removals;
}
  where
    ran : Ran (length plan.jobs) 1 (source_at plan) (begins plan) (by_source 0 (length plan.jobs) w.blocks)
    ran = serial_runs plan w.leads w.ended

    tests : SameTests (events_of (blocks_of w.blocks)) (events_of (blocks_of (by_source 0 (length plan.jobs) w.blocks)))
    tests f = some_same w.leads f ∙ sym (by_source_some f 0 (length plan.jobs) w.blocks)

    link_same : link_after plan (events_of (blocks_of w.blocks))
        ≡ link_after plan (events_of (blocks_of (by_source 0 (length plan.jobs) w.blocks)))
    link_same = rw (tests (λ e. failed e.answer)) refl

    all : SameTests (events_of (blocks_of w.blocks) ++ events_of w.link)
        (events_of (blocks_of (by_source 0 (length plan.jobs) w.blocks)) ++ events_of w.link)
    all f = any_append f (events_of (blocks_of w.blocks)) (events_of w.link) ∙ ap (λ t. t || list_any f (events_of w.link)) (tests f)
        ∙ sym (any_append f (events_of (blocks_of (by_source 0 (length plan.jobs) w.blocks))) (events_of w.link))

-- The same answers, place by place.

-- a place of another job is another place
at_other : (q p : Place) → nat_eq (job_of q) (job_of p) ≡ false → is_at q p ≡ false
at_other (place.Command j h l) (place.Command k g i) e = rw e refl
at_other (place.Temp j l) (place.Temp k i) e = rw e refl
at_other q p e = refl

-- the answers at a place are of its job's steps
only : (p : Place) → OnlyOf (λ e. outcome p e.step e.answer) (job_of p)
only p = record { other = λ e h. by e.step e.answer h; no_report = λ n t. refl; no_close = refl }
  where
    by : (s : Step) (x : Answer) → nat_eq (source_of s) (job_of p) ≡ false → outcome p s x ≡ []
    by (step.Claim q) x h = rw (at_other q p h) refl
    by (step.Start q from_pipe to_pipe) x h = rw (at_other q p h) refl
    by (step.Wait q id) x h = rw (at_other q p h) refl
    by s x h = refl

-- blocks of one source among others
of_with : (k j : ℕ) (bs : List Block) (cs : List SourceBlock) → of j (blocks_with k bs ++ cs)
    ≡ (if nat_eq k j then bs ++ of j cs else of j cs)
of_with k j bs cs = by (nat_eq k j) refl bs
  where
    by : (t : Bool) → nat_eq k j ≡ t → (xs : List Block) → of j (blocks_with k xs ++ cs) ≡ (if t then xs ++ of j cs else of j cs)
    by true e [] = refl
    by false e [] = refl
    by true e (x ∷ xs) = rw e (ap (λ l. x ∷ l) (by true e xs))
    by false e (x ∷ xs) = rw e (by false e xs)

of_before : (k m j : ℕ) (bs : List SourceBlock) → j < k → of j (by_source k m bs) ≡ []
of_before k zero j bs lt = refl
of_before k (suc m) j bs lt =
    let e : nat_eq k j ≡ false = grind (arith, nat_tests) in
    of_with k j (of k bs) (by_source (k + 1) m bs) ∙ rw e (of_before (k + 1) m j bs (omega (arith, lt)))

of_by_source : (k m j : ℕ) (bs : List SourceBlock) → k ≤ j → j < k + m → of j (by_source k m bs) ≡ of j bs
of_by_source k zero j bs le lt = absurd (omega (arith, le, lt))
of_by_source k (suc m) j bs le lt = of_with k j (of k bs) (by_source (k + 1) m bs)
    ∙ by (nat_eq k j) refl (λ up. of_by_source (k + 1) m j bs up (omega (arith, lt)))
  where
    by : (t : Bool) → nat_eq k j ≡ t → (k + 1 ≤ j → of j (by_source (k + 1) m bs) ≡ of j bs)
        → (if t then of k bs ++ of j (by_source (k + 1) m bs) else of j (by_source (k + 1) m bs)) ≡ of j bs
    by true e ih =
        let is : k ≡ j = same k j e in
        rw (of_before (k + 1) m j bs (omega (arith, is))) (append-nil (of k bs) ∙ ap (λ i. of i bs) is)
    by false e ih = ih (grind (arith, nat_tests))

-- what events say of one job, they say taken source by source
same_of : {X : Type 0} {f : RunEvent → List X} {j : ℕ} → OnlyOf f j → (plan : Plan) (N : ℕ) (E : List RunEvent) (w : Windowed plan N E)
    → flat_map f (serial w) ≡ flat_map f E
same_of {f = f} {j = j} o plan N E w =
    flat_map-append f (events_of (blocks_of (by_source 0 (length plan.jobs) w.blocks))) (events_of w.link ++ w.last)
    ∙ ap (λ l. l ++ flat_map f (events_of w.link ++ w.last)) (one_source o ran.leads
    ∙ ap (λ l. flat_map f (events_of l)) (of_same (nat_lt j (length plan.jobs)) refl)
    ∙ sym (one_source o w.leads))
    ∙ sym (flat_map-append f (events_of (blocks_of w.blocks)) (events_of w.link ++ w.last))
    ∙ ap (flat_map f) (sym w.events)
  where
    ran : Ran (length plan.jobs) 1 (source_at plan) (begins plan) (by_source 0 (length plan.jobs) w.blocks)
    ran = serial_runs plan w.leads w.ended

    of_same : (t : Bool) → nat_lt j (length plan.jobs) ≡ t → of j (by_source 0 (length plan.jobs) w.blocks) ≡ of j w.blocks
    of_same true e = of_by_source 0 (length plan.jobs) j w.blocks (omega arith)
        (let lt = is_less j (length plan.jobs) e in omega (arith, lt))
    of_same false e =
        let le = is_not_less j (length plan.jobs) e in
        of_beyond ran.leads j le ∙ sym (of_beyond w.leads j le)

pub same_outcomes : SameOutcomes
same_outcomes plan N E w p = same_of (only p) plan N E w

-- the acts of a job are of its own steps
pub acts_only : (k : ℕ) → OnlyOf (λ e. act_of k e.step e.answer) k
acts_only k = record { other = λ e h. by e.step e.answer h; no_report = λ n t. refl; no_close = refl }
  where
    by : (s : Step) (x : Answer) → nat_eq (source_of s) k ≡ false → act_of k s x ≡ []
    by (step.Claim p) x h = rw h refl
    by (step.Start p from_pipe to_pipe) (answer.Start (start.Started id)) h = rw h refl
    by (step.Start p from_pipe to_pipe) x h = rw h refl
    by (step.Wait p id) x h = rw h refl
    by s x h = refl

pub starts_the_same : StartsTheSame
starts_the_same plan N E w k = ap starts_of (same_of (acts_only k) plan N E w)
