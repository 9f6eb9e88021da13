use Rattle.drv_core.proofs.LinkRuns.{link_same}
use Rattle.drv_core.proofs.OneJob.{own_link, own_source, quiet_last}
use Rattle.drv_core.proofs.Outcomes.{acts_only}
use Rattle.drv_core.proofs.Serial.{told}
use Rattle.drv_core.proofs.Tests.{and_false}
use Rattle.drv_core.specs.Events.{Block, events_of, failed, job_of}
use Rattle.drv_core.specs.Links.{is_work_of, job_failed, link_run}
use Rattle.drv_core.specs.Started.{Act, Fails, InOrder, Starts as Begins, StartsFirst, StartsInOrder, act_of, acts_in, all_started, fails}
use Rattle.drv_core.specs.Started.{members, planned, starts, starts_of}
use Rattle.drv_core.specs.Story.{Claims, Fresh, Goes, Kid, Left, Over, Removes, Starting, Starts, Story, Waits, after_starts, begin_with}
use Rattle.drv_core.specs.Story.{begins}
use Rattle.drv_core.specs.Story.{claimed, exited, last, lost, more, next, over, refused_first, refused_later, removed, signalled, started}
use Rattle.drv_core.specs.Story.{stays}
use Rattle.drv_core.specs.Story.{to_claims, to_groups, to_removals, to_waits, unclaimed}
use Rattle.drv_core.specs.Windowed.{Windowed, source_at}
use Rattle.drv_words.specs.declared.answers.Answer.{Answer}
use Rattle.drv_words.specs.declared.answers.Answer.TheVariants as answer
use Rattle.drv_words.specs.declared.answers.StartAnswer.TheVariants as start
use Rattle.drv_words.specs.declared.plan.Command.{Command}
use Rattle.drv_words.specs.declared.plan.Job.{Job}
use Rattle.drv_words.specs.declared.plan.Plan.{Plan}
use Rattle.drv_words.specs.declared.plan.Temp.{Temp}
use Rattle.drv_words.specs.declared.steps.Place.{Place}
use Rattle.drv_words.specs.declared.steps.RunEvent.{RunEvent}
use Rattle.drv_words.specs.declared.steps.Step.{Step}
use Rattle.drv_words.specs.declared.steps.Step.TheVariants as step
use Rattle.std.proofs.Common.{◌≡◌, ◌+◌, ◌∙◌, ◌&&◌, ◌||◌, Bool, false, true, List, [], ◌∷◌, ◌++◌, ap, if◌then◌else◌, length, nat_eq, refl}
use Rattle.std.proofs.Common.{subst, suc, sym, zero, ℕ}
use Rattle.std.proofs.lemmas.Cmp.{nat_eq_equiv}
use Rattle.std.proofs.lemmas.Grind.{flat_map-append}

-- For started_first: what a story starts and where it fails. `Order` says of each stage which acts may follow.

abbrev Order : ℕ → Job → Left → List Act → Type 0
Order k job Fresh acts = InOrder (planned k 0 job.groups) acts
Order k job (Claims i ts) acts = InOrder (planned k 0 job.groups) acts
Order k job (Starts g m gs) acts = InOrder (members k g 0 m ++ planned k (g + 1) gs) acts
Order k job (Waits g true kid kids gs) acts = starts_of acts ≡ []
Order k job (Waits g false kid kids gs) acts = InOrder (planned k (g + 1) gs) acts
Order k job (Removes i fs) acts = starts_of acts ≡ []
Order k job Over acts = acts ≡ []

of_groups : (k : ℕ) (job : Job) (g : ℕ) (gs : List (List Command)) (acts : List Act) → Order k job (to_groups g gs) acts
    → InOrder (planned k g gs) acts
of_groups k job g [] acts h = subst (λ l. InOrder [] l) (sym h) all_started
of_groups k job g (c ∷ gs) acts h = h

of_claims : (k : ℕ) (job : Job) (i : ℕ) (ts : List Temp) (acts : List Act) → Order k job (to_claims job i ts) acts
    → InOrder (planned k 0 job.groups) acts
of_claims k job i [] acts h = of_groups k job 0 job.groups acts h
of_claims k job i (t ∷ ts) acts h = h

of_removals : (k : ℕ) (job : Job) (i : ℕ) (fs : List (List ℕ)) (acts : List Act) → Order k job (to_removals i fs) acts → starts_of acts ≡ []
of_removals k job i [] acts h = ap starts_of h
of_removals k job i (f ∷ fs) acts h = h

-- after a group: with a fault nothing more is started, otherwise the next groups are
abbrev After : ℕ → ℕ → Bool → List (List Command) → List Act → Type 0
After k g true gs acts = starts_of acts ≡ []
After k g false gs acts = InOrder (planned k (g + 1) gs) acts

of_waits : (k : ℕ) (job : Job) (g : ℕ) (fault : Bool) (kids : List Kid) (gs : List (List Command)) (acts : List Act)
    → Order k job (to_waits job g fault kids gs) acts → After k g fault gs acts
of_waits k job g true (kid ∷ kids) gs acts h = h
of_waits k job g false (kid ∷ kids) gs acts h = h
of_waits k job g true [] gs acts h = of_removals k job 0 job.on_failure acts h
of_waits k job g false [] gs acts h = of_groups k job (g + 1) gs acts h

-- the starts of a group are in order
of_starting : {k g i m : ℕ} {b : Block} {kids : List Kid} {fault : Bool} → Starting k g i m b kids fault
    → (job : Job) (gs : List (List Command))
    → (acts : List Act) → Order k job (after_starts job g fault kids gs) acts → After k g fault gs acts
of_starting last job gs acts h = h
of_starting {k = k} {g = g} {fault = true} (more s) job gs acts h = h
of_starting {k = k} {g = g} {fault = false} (more s) job gs acts h = h
of_starting {k = k} {g = zero} refused_first job gs acts h = ap starts_of h
of_starting {k = k} {g = suc g} refused_first job gs acts h = of_removals k job 0 job.on_failure acts h
of_starting {k = k} {g = zero} refused_later job gs acts h = ap starts_of h
of_starting {k = k} {g = suc g} refused_later job gs acts h = of_removals k job 0 job.on_failure acts h

in_order : {k g i m : ℕ} {b : Block} {kids : List Kid} {fault : Bool} → Starting k g i m b kids fault
    → (gs : List (List Command)) (acts : List Act)
    → After k g fault gs acts → InOrder (members k g i m ++ planned k (g + 1) gs) (acts_in k b ++ acts)
in_order {k = k} last gs acts h = rw (nat_eq_equiv.refl k) (starts h)
in_order {k = k} (more s) gs acts h = rw (nat_eq_equiv.refl k) (starts (in_order s gs acts h))
in_order {k = k} refused_first gs acts h = rw (nat_eq_equiv.refl k) (fails h)
in_order {k = k} refused_later gs acts h = rw (nat_eq_equiv.refl k) (fails h)

-- after a wait
after_wait : (k : ℕ) (job : Job) (g code : ℕ) (fault : Bool) (kid : Kid) (kids : List Kid) (gs : List (List Command)) (acts : List Act)
    → After k g true gs acts → Order k job (Waits g fault kid kids gs) (Fails ∷ acts)
after_wait k job g code true kid kids gs acts h = h
after_wait k job g code false kid kids gs acts h = fails h

-- a block, and what follows it
block_order : {k : ℕ} {job : Job} {s m : Left} {b : Block} → Goes k job s b m → (acts : List Act) → Order k job m acts
    → Order k job s (acts_in k b ++ acts)
block_order {k = k} {job = job} (begins {b = b} d) acts h = of_claims k job 0 job.temps (acts_in k b ++ acts) (block_order d acts h)
block_order {k = k} {job = job} (claimed {i = i} {ts = ts}) acts h = rw (nat_eq_equiv.refl k) (of_claims k job (i + 1) ts acts h)
block_order {k = k} (unclaimed e) acts h = rw (nat_eq_equiv.refl k, e) (fails (ap starts_of h))
block_order {job = job} (started {gs = gs} s) acts h = in_order s gs acts (of_starting s job gs acts h)
block_order {k = k} {job = job} (exited {g = g} {code = zero} {fault = true} {kid = kid} {kids = kids} {gs = gs}) acts h =
    rw (nat_eq_equiv.refl k) (of_waits k job g true kids gs acts h)
block_order {k = k} {job = job} (exited {g = g} {code = zero} {fault = false} {kid = kid} {kids = kids} {gs = gs}) acts h =
    rw (nat_eq_equiv.refl k) (of_waits k job g false kids gs acts h)
block_order {k = k} {job = job} (exited {g = g} {code = suc n} {fault = true} {kid = kid} {kids = kids} {gs = gs}) acts h =
    rw (nat_eq_equiv.refl k) (of_waits k job g true kids gs acts h)
block_order {k = k} {job = job} (exited {g = g} {code = suc n} {fault = false} {kid = kid} {kids = kids} {gs = gs}) acts h =
    rw (nat_eq_equiv.refl k) (fails (of_waits k job g true kids gs acts h))
block_order {k = k} {job = job} (signalled {g = g} {fault = fault} {kid = kid} {kids = kids} {gs = gs}) acts h =
    rw (nat_eq_equiv.refl k) (after_wait k job g 1 fault kid kids gs acts (of_waits k job g true kids gs acts h))
block_order {k = k} {job = job} (lost {g = g} {fault = fault} {kid = kid} {kids = kids} {gs = gs}) acts h =
    rw (nat_eq_equiv.refl k) (after_wait k job g 1 fault kid kids gs acts (of_waits k job g true kids gs acts h))
block_order {k = k} {job = job} (removed {i = i} {fs = fs} e) acts h = of_removals k job (i + 1) fs acts h
block_order {k = k} {job = job} (stays {i = i} {fs = fs} e) acts h = of_removals k job (i + 1) fs acts h

story_order : {k : ℕ} {job : Job} {s : Left} {bs : List Block} → Story k job s bs → Order k job s (acts_in k (events_of bs))
story_order over = refl
story_order {k = k} {job = job} {s = s} (next {b = b} {bs = bs} d t) =
    subst (λ l. Order k job s l) (sym (flat_map-append (λ e. act_of k e.step e.answer) b (events_of bs)))
    (block_order d (acts_in k (events_of bs)) (story_order t))

-- a job's story starts its commands in order
job_order : (k : ℕ) (job : Job) (gs : List (List Command)) (bs : List Block) → job.groups ≡ gs → Story k job (begin_with gs) bs
    → InOrder (planned k 0 gs) (acts_in k (events_of bs))
job_order k job [] bs e t = subst (λ l. InOrder [] l) (sym (story_order t)) all_started
job_order k job (c ∷ gs) bs e t = subst (λ l. InOrder (planned k 0 l) (acts_in k (events_of bs))) e (story_order t)

-- whether a failure is among acts
abbrev pub has_fail : List Act → Bool
has_fail [] = false
has_fail (Begins p ∷ acts) = has_fail acts
has_fail (Fails ∷ acts) = true

-- a job failed exactly if one of its acts is a failure
pub failed_is : (k : ℕ) (E : List RunEvent) → job_failed k E ≡ has_fail (acts_in k E)
failed_is k [] = refl
failed_is k (e ∷ E) = by e.step e.answer (failed_is k E)
  where
    by : (s : Step) (x : Answer) → job_failed k E ≡ has_fail (acts_in k E)
        → ((is_work_of k s && failed x) || job_failed k E) ≡ has_fail (act_of k s x ++ acts_in k E)
    by (step.Start p from_pipe to_pipe) (answer.Start (start.Started id)) ih = rw (and_false (nat_eq (job_of p) k))
        (here (nat_eq (job_of p) k))
      where
        here : (t : Bool) → job_failed k E ≡ has_fail ((if t then Begins p ∷ [] else []) ++ acts_in k E)
        here true = ih
        here false = ih
    by s x ih = here (is_work_of k s && failed x)
      where
        here : (t : Bool) → (t || job_failed k E) ≡ has_fail ((if t then Fails ∷ [] else []) ++ acts_in k E)
        here true = refl
        here false = ih

-- the commands of the list that are not started
abbrev left_of : {ps : List Place} {acts : List Act} → InOrder ps acts → List Place
left_of all_started = []
left_of (starts o) = left_of o
left_of (fails {ps = ps} e) = ps

first_of : {ps : List Place} {acts : List Act} (o : InOrder ps acts) → ps ≡ starts_of acts ++ left_of o
first_of all_started = refl
first_of (starts {p = p} o) = ap (λ l. p ∷ l) (first_of o)
first_of (fails {ps = ps} e) = sym (ap (λ l. l ++ ps) e)

all_of : {ps : List Place} {acts : List Act} → InOrder ps acts → has_fail acts ≡ false → starts_of acts ≡ ps
all_of all_started h = refl
all_of (starts {p = p} o) h = ap (λ l. p ∷ l) (all_of o h)
all_of (fails e) h = absurd cc

starts_first : {k : ℕ} {ps : List Place} {E : List RunEvent} → InOrder ps (acts_in k E) → StartsFirst k ps E
starts_first {k = k} {E = E} o = record {
  in_order = o;
  rest = left_of o;
  first = first_of o;
  every =
      λ e. all_of o (sym (failed_is k E) ∙ e);
}

pub all_in_order : (plan : Plan) (N : ℕ) (events : List RunEvent) → Windowed plan N events → StartsInOrder plan events
all_in_order plan N events w = record {
  sources = λ k lt. starts_first (subst (λ l. InOrder (planned k 0 (source_at plan k).groups) l)
      (sym (own_source (acts_only k) w (quiet_last (acts_only k) (λ p x. refl) w.last_removals) lt))
      (job_order k (source_at plan k) (source_at plan k).groups _ refl (told w.leads w.ended k)));
  link = starts_first (subst (λ l. InOrder (planned (length plan.jobs) 0 (link_run plan events).groups) l)
      (sym (own_link (acts_only (length plan.jobs)) w (quiet_last (acts_only (length plan.jobs)) (λ p x. refl) w.last_removals)))
      (subst (λ job. InOrder (planned (length plan.jobs) 0 job.groups) (acts_in (length plan.jobs) (events_of w.link))) (link_same w)
      (job_order (length plan.jobs) _ _ _ refl w.link_story)));
}
