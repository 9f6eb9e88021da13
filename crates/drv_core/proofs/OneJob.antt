use Rattle.drv_core.proofs.Counting.{is_less, is_not_less, same}
use Rattle.drv_core.proofs.Serial.{told}
use Rattle.drv_core.specs.Events.{Block, closes, events_of, removes, reports, source_of}
use Rattle.drv_core.specs.Story.{Goes, Kid, Left, Starting, Story, begin, begins as begun, claimed, exited, last, lost, more, next, over}
use Rattle.drv_core.specs.Story.{refused_first}
use Rattle.drv_core.specs.Story.{refused_later, removed, signalled, started, stays, unclaimed}
use Rattle.drv_core.specs.Windowed.{Leads, Removals, SourceBlock, Windowed, all_removed, blocks_of, goes_on, link_after, no_more, of}
use Rattle.drv_core.specs.Windowed.{removed as file_removed, source_at, stays as file_stays}
use Rattle.drv_words.specs.Places.{no_job}
use Rattle.drv_words.specs.declared.answers.RemoveAnswer.{RemoveAnswer}
use Rattle.drv_words.specs.declared.plan.Job.{Job}
use Rattle.drv_words.specs.declared.plan.Plan.{Plan}
use Rattle.drv_words.specs.declared.steps.Note.{Note}
use Rattle.drv_words.specs.declared.steps.Place.{Place}
use Rattle.drv_words.specs.declared.steps.RunEvent.{RunEvent}
use Rattle.std.proofs.Common.{◌≡◌, ◌<◌, ◌≤◌, ◌∙◌, Bool, false, true, List, [], ◌∷◌, ◌++◌, ap, append-nil, arith, if◌then◌else◌, length}
use Rattle.std.proofs.Common.{nat_eq, nat_lt}
use Rattle.std.proofs.Common.{refl, subst, sym, ℕ}
use Rattle.std.proofs.lemmas.Bool.Decides.{nat_tests}
use Rattle.std.proofs.lemmas.Grind.{flat_map-append}
use Rattle.std.specs.List.{flat_map}

-- What events say of one job is what its own story says of it.

-- `f` speaks of the claims, starts, waits and own removals of job j alone
pub record OnlyOf {X : Type 0} (f : RunEvent → List X) (j : ℕ) : Type 0 where
  pub other : (e : RunEvent) → nat_eq (source_of e.step) j ≡ false → f e ≡ []
  pub no_report : (n : Note) (t : Bool) → f (reports n t) ≡ []
  pub no_close : f closes ≡ []

pub none_and : {X : Type 0} {xs ys : List X} → xs ≡ [] → ys ≡ [] → xs ++ ys ≡ []
none_and {ys = ys} e h = rw e h

starts_quiet : {X : Type 0} {f : RunEvent → List X} {j k g i m : ℕ} {b : Block} {kids : List Kid} {fault : Bool}
    → OnlyOf f j → nat_eq k j ≡ false
    → Starting k g i m b kids fault → flat_map f b ≡ []
starts_quiet o e last = none_and (o.other _ e) refl
starts_quiet o e (more s) = none_and (o.other _ e) (starts_quiet o e s)
starts_quiet o e refused_first = none_and (o.other _ e) (none_and (o.no_report _ _) refl)
starts_quiet o e refused_later = none_and (o.other _ e) (none_and (o.no_report _ _) (none_and o.no_close refl))

quiet : {X : Type 0} {f : RunEvent → List X} {j k : ℕ} {job : Job} {s m : Left} {b : Block} → OnlyOf f j
    → nat_eq k j ≡ false → Goes k job s b m
    → flat_map f b ≡ []
quiet o e (begun g) = quiet o e g
quiet o e claimed = none_and (o.other _ e) refl
quiet o e (unclaimed x) = none_and (o.other _ e) (none_and (o.no_report _ _) refl)
quiet o e (started s) = starts_quiet o e s
quiet o e exited = none_and (o.other _ e) refl
quiet o e signalled = none_and (o.other _ e) (none_and (o.no_report _ _) refl)
quiet o e lost = none_and (o.other _ e) (none_and (o.no_report _ _) refl)
quiet o e (removed x) = none_and (o.other _ e) refl
quiet o e (stays x) = none_and (o.other _ e) (none_and (o.no_report _ _) refl)

quiet_story : {X : Type 0} {f : RunEvent → List X} {j k : ℕ} {job : Job} {s : Left} {bs : List Block}
    → OnlyOf f j → nat_eq k j ≡ false → Story k job s bs
    → flat_map f (events_of bs) ≡ []
quiet_story o e over = refl
quiet_story {f = f} o e (next {b = b} {bs = bs} g s) = flat_map-append f b (events_of bs) ∙ none_and (quiet o e g) (quiet_story o e s)

pub quiet_last : {X : Type 0} {f : RunEvent → List X} {j : ℕ} {fs : List Place} {last : List RunEvent} → OnlyOf f j
    → ((p : Place) (x : RemoveAnswer) → f (removes p x) ≡ []) → Removals fs last → flat_map f last ≡ []
quiet_last o q all_removed = refl
quiet_last o q (file_removed e r) = none_and (q _ _) (quiet_last o q r)
quiet_last o q (file_stays e r) = none_and (q _ _) (none_and (o.no_report _ _) (quiet_last o q r))

-- all blocks of the sources say what those of the job say
pub one_source : {X : Type 0} {f : RunEvent → List X} {j n N : ℕ} {job : ℕ → Job} {st x : ℕ → Left} {bs : List SourceBlock} → OnlyOf f j
    → Leads n N job st bs x → flat_map f (events_of (blocks_of bs)) ≡ flat_map f (events_of (of j bs))
one_source o no_more = refl
one_source {f = f} {j = j} o (goes_on {k = k} {b = b} {bs = bs} may g l) = flat_map-append f b (events_of (blocks_of bs))
    ∙ ap (λ xs. flat_map f b ++ xs) (one_source o l) ∙ by (nat_eq k j) refl
  where
    by : (t : Bool) → nat_eq k j ≡ t → flat_map f b ++ flat_map f (events_of (of j bs))
        ≡ flat_map f (events_of (if t then b ∷ of j bs else of j bs))
    by true e = sym (flat_map-append f b (events_of (of j bs)))
    by false e = rw (quiet o e g) refl

pub of_beyond : {n N : ℕ} {job : ℕ → Job} {st x : ℕ → Left} {bs : List SourceBlock} → Leads n N job st bs x → (j : ℕ) → n ≤ j → of j bs ≡ []
of_beyond no_more j le = refl
of_beyond (goes_on {k = k} may g l) j le =
    let e : nat_eq k j ≡ false = (let lt = may.is_source in grind (arith, nat_tests)) in
    rw e (of_beyond l j le)

-- what the events of a run say of one job, where the removals at the end say nothing of it
parts : {X : Type 0} {f : RunEvent → List X} {j : ℕ} {plan : Plan} {N : ℕ} {E : List RunEvent} → OnlyOf f j → (w : Windowed plan N E)
    → flat_map f w.last ≡ [] → flat_map f E ≡ flat_map f (events_of (of j w.blocks)) ++ flat_map f (events_of w.link)
parts {f = f} {j = j} o w q = ap (flat_map f) w.events ∙ flat_map-append f (events_of (blocks_of w.blocks)) (events_of w.link ++ w.last)
    ∙ ap (λ l. l ++ flat_map f (events_of w.link ++ w.last)) (one_source o w.leads)
    ∙ ap (λ l. flat_map f (events_of (of j w.blocks)) ++ l) (flat_map-append f (events_of w.link) w.last
    ∙ ap (λ l. flat_map f (events_of w.link) ++ l) q ∙ append-nil (flat_map f (events_of w.link)))

-- of a source they say what its own blocks say
pub own_source : {X : Type 0} {f : RunEvent → List X} {j : ℕ} {plan : Plan} {N : ℕ} {E : List RunEvent}
    → OnlyOf f j → (w : Windowed plan N E)
    → flat_map f w.last ≡ [] → j < length plan.jobs → flat_map f E ≡ flat_map f (events_of (of j w.blocks))
own_source {f = f} {j = j} {plan = plan} o w q lt = parts o w q
    ∙ ap (λ l. flat_map f (events_of (of j w.blocks)) ++ l) (quiet_story o (grind (arith, nat_tests)) w.link_story)
    ∙ append-nil (flat_map f (events_of (of j w.blocks)))

-- of the link what its blocks say
pub own_link : {X : Type 0} {f : RunEvent → List X} {plan : Plan} {N : ℕ} {E : List RunEvent} → OnlyOf f (length plan.jobs)
    → (w : Windowed plan N E)
    → flat_map f w.last ≡ [] → flat_map f E ≡ flat_map f (events_of w.link)
own_link {f = f} {plan = plan} o w q = parts o w q
    ∙ ap (λ l. flat_map f (events_of l) ++ flat_map f (events_of w.link)) (of_beyond w.leads (length plan.jobs) (omega arith))

-- of a number beyond them nothing
own_none : {X : Type 0} {f : RunEvent → List X} {j : ℕ} {plan : Plan} {N : ℕ} {E : List RunEvent} → OnlyOf f j → (w : Windowed plan N E)
    → flat_map f w.last ≡ [] → length plan.jobs < j → flat_map f E ≡ []
own_none {f = f} {j = j} {plan = plan} o w q lt = parts o w q
    ∙ none_and (ap (λ l. flat_map f (events_of l)) (of_beyond w.leads j (omega (arith, lt))))
    (quiet_story o (grind (arith, nat_tests)) w.link_story)

-- the story of job j, which says what all events say of it
pub record Own {X : Type 0} (f : RunEvent → List X) (j : ℕ) (E : List RunEvent) : Type 0 where
  pub job : Job
  pub blocks : List Block
  pub story : Story j job (begin job) blocks
  pub is : flat_map f E ≡ flat_map f (events_of blocks)

pub own : {X : Type 0} {f : RunEvent → List X} {j : ℕ} {plan : Plan} {N : ℕ} {E : List RunEvent} → OnlyOf f j → (w : Windowed plan N E)
    → flat_map f w.last ≡ [] → Own f j E
own {f = f} {j = j} {plan = plan} {E = E} o w q = by (nat_lt j (length plan.jobs)) (nat_eq (length plan.jobs) j) refl refl
  where
    by : (t u : Bool) → nat_lt j (length plan.jobs) ≡ t → nat_eq (length plan.jobs) j ≡ u → Own f j E
    by true u e h = record {
      job = source_at plan j;
      blocks = of j w.blocks;
      story = told w.leads w.ended j;
      is = own_source o w q (is_less j (length plan.jobs) e);
    }
    by false true e h =
        let is : length plan.jobs ≡ j = same (length plan.jobs) j h in
        record {
          job = link_after plan (events_of (blocks_of w.blocks));
          blocks = w.link;
          story = subst (λ i. Story i (link_after plan (events_of (blocks_of w.blocks)))
              (begin (link_after plan (events_of (blocks_of w.blocks)))) w.link) is w.link_story;
          is = parts o w q ∙ ap (λ l. flat_map f (events_of l) ++ flat_map f (events_of w.link))
              (of_beyond w.leads j (is_not_less j (length plan.jobs) e));
        }
    by false false e h = record {
      job = no_job;
      blocks = [];
      story = over;
      is = own_none o w q (grind (arith, nat_tests));
    }
