use Rattle.std.specs.Prelude.{⊤}
use Rattle.drv_core.proofs.OneJob.{OnlyOf, Own, own, quiet_last}
use Rattle.drv_core.proofs.Counting.{is_less, is_not_less}
use Rattle.drv_core.specs.Events.{Block, events_of, source_of}
use Rattle.drv_core.specs.Story.{Claims, Fresh, Goes, Kid, Left, Starting, Starts, Story, Waits, after_starts, begin_with, begins, claimed}
use Rattle.drv_core.specs.Story.{exited, last, lost, more, next, over}
use Rattle.drv_core.specs.Story.{refused_first, refused_later, removed, signalled, started, stays, to_claims, to_groups, to_removals}
use Rattle.drv_core.specs.Story.{to_waits, unclaimed}
use Rattle.drv_core.specs.Waited.{Act, Ascends, Awaits, Begins, Child, Waited, WaitsForEach, acts_in, acts_of, awaits, begins as one_begins}
use Rattle.drv_core.specs.Waited.{child_at, over as all_waited_for}
use Rattle.drv_core.specs.Windowed.{Windowed}
use Rattle.drv_words.specs.declared.answers.Answer.{Answer}
use Rattle.drv_words.specs.declared.answers.Answer.TheVariants as answer
use Rattle.drv_words.specs.declared.answers.StartAnswer.TheVariants as start
use Rattle.drv_words.specs.declared.plan.Command.{Command}
use Rattle.drv_words.specs.declared.plan.Job.{Job}
use Rattle.drv_words.specs.declared.plan.Plan.{Plan}
use Rattle.drv_words.specs.declared.plan.Temp.{Temp}
use Rattle.drv_words.specs.declared.steps.Place.{Place}
use Rattle.drv_words.specs.declared.steps.Place.TheVariants as place
use Rattle.drv_words.specs.declared.steps.RunEvent.{RunEvent}
use Rattle.drv_words.specs.declared.steps.Step.{Step}
use Rattle.drv_words.specs.declared.steps.Step.TheVariants as step
use Rattle.std.proofs.Common.{◌≡◌, ◌<◌, ◌≤◌, ◌⊎◌, ◌+◌, Bool, arith, inl, inr, nat_lt, false, true, List, [], ◌∷◌, ◌++◌, append-nil}
use Rattle.std.proofs.Common.{append_assoc, nat_eq, refl, subst, suc, sym, zero, ℕ}
use Rattle.std.proofs.lemmas.Cmp.{nat_eq_equiv}
use Rattle.std.proofs.lemmas.Grind.{flat_map-append}

-- For waiting_law: each story waits for the children that it started, in order.

-- the children of a group
abbrev children : ℕ → List Kid → List Child
children g [] = []
children g (kid ∷ kids) = record { group = g; member = kid.member; id = kid.id } ∷ children g kids

-- those that are still to be waited for
abbrev open_at : Left → List Child
open_at (Waits g fault kid kids gs) = children g (kid ∷ kids)
open_at s = []

open_removals : (i : ℕ) (fs : List (List ℕ)) → open_at (to_removals i fs) ≡ []
open_removals i [] = refl
open_removals i (f ∷ fs) = refl

open_groups : (g : ℕ) (gs : List (List Command)) → open_at (to_groups g gs) ≡ []
open_groups g [] = refl
open_groups g (c ∷ gs) = refl

open_claims : (job : Job) (i : ℕ) (ts : List Temp) → open_at (to_claims job i ts) ≡ []
open_claims job i [] = open_groups 0 job.groups
open_claims job i (t ∷ ts) = refl

open_waits : (job : Job) (g : ℕ) (fault : Bool) (kids : List Kid) (gs : List (List Command))
    → open_at (to_waits job g fault kids gs) ≡ children g kids
open_waits job g fault (kid ∷ kids) gs = refl
open_waits job g true [] gs = open_removals 0 job.on_failure
open_waits job g false [] gs = open_groups (g + 1) gs

open_starts : (job : Job) (g : ℕ) (fault : Bool) (kids : List Kid) (gs : List (List Command))
    → open_at (after_starts job g fault kids gs) ≡ children g kids
open_starts job zero fault [] gs = refl
open_starts job (suc g) fault [] gs = open_waits job (suc g) fault [] gs
open_starts job g fault (kid ∷ kids) gs = refl

open_begin : (gs : List (List Command)) → open_at (begin_with gs) ≡ []
open_begin [] = refl
open_begin (c ∷ gs) = refl

starts_wait : {k g i m : ℕ} {b : Block} {kids : List Kid} {fault : Bool} → Starting k g i m b kids fault
    → (waiting : List Child) (acts : List Act)
    → Waited (waiting ++ children g kids) acts → Waited waiting (acts_in k b ++ acts)
starts_wait {k = k} last waiting acts h = rw (nat_eq_equiv.refl k) (one_begins _ waiting acts h)
starts_wait {k = k} (more s) waiting acts h = rw (nat_eq_equiv.refl k)
    (one_begins _ waiting _ (starts_wait s (waiting ++ _ ∷ []) acts (subst (λ l. Waited l acts) (sym (append_assoc waiting (_ ∷ []) _)) h)))
starts_wait refused_first waiting acts h = subst (λ l. Waited l acts) (append-nil waiting) h
starts_wait refused_later waiting acts h = subst (λ l. Waited l acts) (append-nil waiting) h

block_waits : {k : ℕ} {job : Job} {s m : Left} {b : Block} → Goes k job s b m → (acts : List Act) → Waited (open_at m) acts
    → Waited (open_at s) (acts_in k b ++ acts)
block_waits {k = k} {job = job} (begins {b = b} g) acts h = subst (λ l. Waited l (acts_in k b ++ acts))
    (open_claims job 0 job.temps) (block_waits g acts h)
block_waits {job = job} (claimed {i = i} {ts = ts}) acts h = subst (λ l. Waited l acts) (open_claims job (i + 1) ts) h
block_waits (unclaimed e) acts h = h
block_waits {job = job} (started {g = g} {gs = gs} {kids = kids} {fault = fault} s) acts h =
    starts_wait s [] acts (subst (λ l. Waited l acts) (open_starts job g fault kids gs) h)
block_waits {k = k} {job = job} (exited {g = g} {kids = kids} {gs = gs}) acts h =
    rw (nat_eq_equiv.refl k) (awaits _ (children g kids) acts (subst (λ l. Waited l acts) (open_waits job g _ kids gs) h))
block_waits {k = k} {job = job} (signalled {g = g} {kids = kids} {gs = gs}) acts h =
    rw (nat_eq_equiv.refl k) (awaits _ (children g kids) acts (subst (λ l. Waited l acts) (open_waits job g true kids gs) h))
block_waits {k = k} {job = job} (lost {g = g} {kids = kids} {gs = gs}) acts h =
    rw (nat_eq_equiv.refl k) (awaits _ (children g kids) acts (subst (λ l. Waited l acts) (open_waits job g true kids gs) h))
block_waits (removed {i = i} {fs = fs} e) acts h = subst (λ l. Waited l acts) (open_removals (i + 1) fs) h
block_waits (stays {i = i} {fs = fs} e) acts h = subst (λ l. Waited l acts) (open_removals (i + 1) fs) h

story_waits : {k : ℕ} {job : Job} {s : Left} {bs : List Block} → Story k job s bs → Waited (open_at s) (acts_in k (events_of bs))
story_waits over = all_waited_for
story_waits {k = k} {s = s} (next {b = b} {bs = bs} g t) =
    subst (λ l. Waited (open_at s) l) (sym (flat_map-append (λ e. acts_of k e.step e.answer) b (events_of bs)))
    (block_waits g (acts_in k (events_of bs)) (story_waits t))

-- acts of job k are of its own steps
only : (k : ℕ) → OnlyOf (λ e. acts_of k e.step e.answer) k
only k = record { other = λ e h. by e.step e.answer h; no_report = λ n t. refl; no_close = refl }
  where
    at : (p : Place) (act : Child → Act) (id : ℕ) → nat_eq (source_of (step.Claim p)) k ≡ false → child_at k p act id ≡ []
    at (place.Command j g i) act id h = rw h refl
    at p act id h = refl

    by : (s : Step) (x : Answer) → nat_eq (source_of s) k ≡ false → acts_of k s x ≡ []
    by (step.Start p from_pipe to_pipe) (answer.Start (start.Started id)) h = at p Begins id h
    by (step.Wait p id) x h = at p Awaits id h
    by s x h = refl

-- each place starts one child

-- a stage of a group that is not over starts only later places
abbrev Later : ℕ → Left → Type 0
Later g (Claims i ts) = g ≡ 0
Later g Fresh = g ≡ 0
Later g (Starts h m gs) = g ≤ h
Later g (Waits h fault kid kids gs) = g ≤ h + 1
Later g s = ⊤

later_groups : (g h : ℕ) (gs : List (List Command)) → g ≤ h → Later g (to_groups h gs)
later_groups g h [] le = tt
later_groups g h (c ∷ gs) le = le

later_claims : (job : Job) (i : ℕ) (ts : List Temp) → Later 0 (to_claims job i ts)
later_claims job i [] = later_groups 0 0 job.groups (omega arith)
later_claims job i (t ∷ ts) = refl

later_removals : (g i : ℕ) (fs : List (List ℕ)) → Later g (to_removals i fs)
later_removals g i [] = tt
later_removals g i (f ∷ fs) = tt

later_waits : (job : Job) (g h : ℕ) (fault : Bool) (kids : List Kid) (gs : List (List Command)) → g ≤ h + 1
    → Later g (to_waits job h fault kids gs)
later_waits job g h fault (kid ∷ kids) gs le = le
later_waits job g h true [] gs le = later_removals g 0 job.on_failure
later_waits job g h false [] gs le = later_groups g (h + 1) gs le

later_starts : (job : Job) (h : ℕ) (fault : Bool) (kids : List Kid) (gs : List (List Command))
    → Later (h + 1) (after_starts job h fault kids gs)
later_starts job zero fault [] gs = tt
later_starts job (suc h) fault [] gs = later_waits job (suc h + 1) (suc h) fault [] gs (omega arith)
later_starts job h fault (kid ∷ kids) gs = let le : h + 1 ≤ h + 1 = omega arith in le

-- places from here on ascend from any earlier one
ascend_from : (g i h l : ℕ) (acts : List Act) → (g < h) ⊎ ((g ≡ h) × (i ≤ l)) → Ascends h l acts → Ascends g i acts
ascend_from g i h l [] le a = tt
ascend_from g i h l (Awaits c ∷ acts) le a = ascend_from g i h l acts le a
ascend_from g i h l (Begins c ∷ acts) le a = (by le a.0, a.1)
  where
    by : (g < h) ⊎ ((g ≡ h) × (i ≤ l)) → (h < c.group) ⊎ ((h ≡ c.group) × (l ≤ c.member)) → (g < c.group) ⊎ ((g ≡ c.group) × (i ≤ c.member))
    by (inl x) (inl y) = inl (omega (arith, x, y))
    by (inl x) (inr y) = inl (let e = y.0 in omega (arith, x, e))
    by (inr x) (inl y) = inl (let e = x.0 in omega (arith, e, y))
    by (inr x) (inr y) = let e = x.0 in let f = y.0 in let p = x.1 in let q = y.1 in inr (omega (arith, e, f), omega (arith, p, q))

-- what a group starts ascends, and then what comes from the next group on
starts_ascend : {k g i m : ℕ} {b : Block} {kids : List Kid} {fault : Bool} → Starting k g i m b kids fault → (acts : List Act)
    → Ascends (g + 1) 0 acts → Ascends g i (acts_in k b ++ acts)
starts_ascend {k = k} {g = g} {i = i} last acts h =
    rw (nat_eq_equiv.refl k) (inr (refl, omega arith), ascend_from g (i + 1) (g + 1) 0 acts (inl (omega arith)) h)
starts_ascend {k = k} (more s) acts h = rw (nat_eq_equiv.refl k) (inr (refl, omega arith), starts_ascend s acts h)
starts_ascend {g = g} refused_first acts h = ascend_from g 0 (g + 1) 0 acts (inl (omega arith)) h
starts_ascend {g = g} (refused_later {i = i}) acts h = ascend_from g (suc i) (g + 1) 0 acts (inl (omega arith)) h

-- what follows a block ascends from any group that may come later
abbrev Ascending : Left → List Act → Type 0
Ascending s acts = (g : ℕ) → Later g s → Ascends g 0 acts

block_ascends : {k : ℕ} {job : Job} {s m : Left} {b : Block} → Goes k job s b m → (acts : List Act) → Ascending m acts
    → Ascending s (acts_in k b ++ acts)
block_ascends {k = k} {job = job} (begins {b = b} d) acts h g e =
    block_ascends d acts h g (subst (λ i. Later i (to_claims job 0 job.temps)) (sym e) (later_claims job 0 job.temps))
block_ascends {job = job} (claimed {i = i} {ts = ts}) acts h g e =
    h g (subst (λ n. Later n (to_claims job (i + 1) ts)) (sym e) (later_claims job (i + 1) ts))
block_ascends (unclaimed x) acts h g e = h g tt
block_ascends {k = k} {job = job} (started {g = l} {gs = gs} {b = b} {kids = kids} {fault = fault} s) acts h g le =
    ascend_from g 0 l 0 (acts_in k b ++ acts) (by (nat_lt g l) refl) (starts_ascend s acts (h (l + 1) (later_starts job l fault kids gs)))
  where
    by : (t : Bool) → nat_lt g l ≡ t → (g < l) ⊎ ((g ≡ l) × (0 ≤ 0))
    by true x = inl (is_less g l x)
    by false x = inr ((let ge = is_not_less g l x in omega (arith, le, ge)), omega arith)
block_ascends {k = k} {job = job} (exited {g = l} {kids = kids} {gs = gs}) acts h g le =
    rw (nat_eq_equiv.refl k) (h g (later_waits job g l _ kids gs le))
block_ascends {k = k} {job = job} (signalled {g = l} {kids = kids} {gs = gs}) acts h g le =
    rw (nat_eq_equiv.refl k) (h g (later_waits job g l true kids gs le))
block_ascends {k = k} {job = job} (lost {g = l} {kids = kids} {gs = gs}) acts h g le =
    rw (nat_eq_equiv.refl k) (h g (later_waits job g l true kids gs le))
block_ascends (removed {i = i} {fs = fs} x) acts h g e = h g (later_removals g (i + 1) fs)
block_ascends (stays {i = i} {fs = fs} x) acts h g e = h g (later_removals g (i + 1) fs)

story_ascends : {k : ℕ} {job : Job} {s : Left} {bs : List Block} → Story k job s bs → Ascending s (acts_in k (events_of bs))
story_ascends over g e = tt
story_ascends {k = k} (next {b = b} {bs = bs} d t) g e =
    subst (λ l. Ascends g 0 l) (sym (flat_map-append (λ e. acts_of k e.step e.answer) b (events_of bs)))
    (block_ascends d (acts_in k (events_of bs)) (story_ascends t) g e)

later_begin : (gs : List (List Command)) → Later 0 (begin_with gs)
later_begin [] = tt
later_begin (c ∷ gs) = refl

pub all_waited : (plan : Plan) (N : ℕ) (events : List RunEvent) → Windowed plan N events → (k : ℕ) → WaitsForEach k events
all_waited plan N events w k = record {
  each = subst (λ l. Waited [] l) (sym o.is) (subst (λ l. Waited l (acts_in k (events_of o.blocks)))
      (open_begin o.job.groups) (story_waits o.story));
  once = subst (λ l. Ascends 0 0 l) (sym o.is) (story_ascends o.story 0 (later_begin o.job.groups));
}
  where
    o : Own (λ e. acts_of k e.step e.answer) k events
    o = own (only k) w (quiet_last (only k) (λ p x. refl) w.last_removals)
