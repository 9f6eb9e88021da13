use Rattle.drv_core.proofs.OneJob.{OnlyOf, Own, own, quiet_last}
use Rattle.drv_core.specs.Code.Leftovers.{claim_by, claims_in, is_left, swept}
use Rattle.drv_core.specs.Events.{Block, events_of, source_of}
use Rattle.drv_core.specs.Story.{Claims, Fresh, Goes, Kid, Left, Starting, Story, after_starts, begin_with, begins, claimed, exited, last}
use Rattle.drv_core.specs.Story.{lost}
use Rattle.drv_core.specs.Story.{more, next, over, refused_first, refused_later, removed, signalled, started, stays, to_claims, to_groups}
use Rattle.drv_core.specs.Story.{to_removals, to_waits, unclaimed}
use Rattle.drv_core.specs.Windowed.{File, Removals, Windowed, all_files, due, each_once, has_claimed, is_due}
use Rattle.drv_words.specs.declared.answers.Answer.{Answer}
use Rattle.drv_words.specs.declared.answers.Answer.TheVariants as answer
use Rattle.drv_words.specs.declared.answers.ClaimAnswer.TheVariants as claim
use Rattle.drv_words.specs.declared.plan.Command.{Command}
use Rattle.drv_words.specs.declared.plan.Job.{Job}
use Rattle.drv_words.specs.declared.plan.Plan.{Plan}
use Rattle.drv_words.specs.declared.plan.Temp.{Temp}
use Rattle.drv_words.specs.declared.steps.Place.{Place}
use Rattle.drv_words.specs.declared.steps.Place.TheVariants as place
use Rattle.drv_words.specs.declared.steps.RunEvent.{RunEvent}
use Rattle.drv_words.specs.declared.steps.Step.{Step}
use Rattle.drv_words.specs.declared.steps.Step.TheVariants as step
use Rattle.std.proofs.Common.{◌≡◌, ◌≤◌, ◌+◌, ◌∙◌, ◌&&◌, ◌||◌, Bool, false, true, List, [], ◌∷◌, ◌++◌, ap, append-nil, arith, if◌then◌else◌}
use Rattle.std.proofs.Common.{length, nat_eq}
use Rattle.std.proofs.Common.{nat_lt, refl, subst, suc, sym, zero, ℕ}
use Rattle.std.proofs.lemmas.Bool.Decides.{nat_tests}
use Rattle.std.proofs.lemmas.Cmp.{nat_eq_equiv}
use Rattle.std.proofs.lemmas.Grind.{flat_map-append}
use Rattle.std.specs.List.{filter, list_any}
use Rattle.std.specs.Prelude.{map}

-- A job claims its temporaries in order, so their number says which.

-- numbers from i on, one after another
pub data Runs : ℕ → List ℕ → Type 0 where
  no_more : {i : ℕ} → Runs i []
  one_more : {i : ℕ} {is : List ℕ} → Runs (i + 1) is → Runs i (i ∷ is)

-- at this stage these are claimed
abbrev From : Left → List ℕ → Type 0
From Fresh is = Runs 0 is
From (Claims i ts) is = Runs i is
From s is = is ≡ []

from_groups : (g i : ℕ) (gs : List (List Command)) (is : List ℕ) → From (to_groups g gs) is → Runs i is
from_groups g i [] is h = subst (Runs i) (sym h) no_more
from_groups g i (c ∷ gs) is h = subst (Runs i) (sym h) no_more

from_claims : (job : Job) (i : ℕ) (ts : List Temp) (is : List ℕ) → From (to_claims job i ts) is → Runs i is
from_claims job i [] is h = from_groups 0 i job.groups is h
from_claims job i (t ∷ ts) is h = h

none_groups : (g : ℕ) (gs : List (List Command)) (is : List ℕ) → From (to_groups g gs) is → is ≡ []
none_groups g [] is h = h
none_groups g (c ∷ gs) is h = h

none_removals : (i : ℕ) (fs : List (List ℕ)) (is : List ℕ) → From (to_removals i fs) is → is ≡ []
none_removals i [] is h = h
none_removals i (f ∷ fs) is h = h

none_waits : (job : Job) (g : ℕ) (fault : Bool) (kids : List Kid) (gs : List (List Command)) (is : List ℕ)
    → From (to_waits job g fault kids gs) is → is ≡ []
none_waits job g fault (kid ∷ kids) gs is h = h
none_waits job g true [] gs is h = none_removals 0 job.on_failure is h
none_waits job g false [] gs is h = none_groups (g + 1) gs is h

none_starts : (job : Job) (g : ℕ) (fault : Bool) (kids : List Kid) (gs : List (List Command)) (is : List ℕ)
    → From (after_starts job g fault kids gs) is → is ≡ []
none_starts job zero fault [] gs is h = h
none_starts job (suc g) fault [] gs is h = none_waits job (suc g) fault [] gs is h
none_starts job g fault (kid ∷ kids) gs is h = h

starts_claim : {k g i m : ℕ} {b : Block} {kids : List Kid} {fault : Bool} → Starting k g i m b kids fault → claims_in k b ≡ []
starts_claim last = refl
starts_claim (more s) = starts_claim s
starts_claim refused_first = refl
starts_claim refused_later = refl

block_claims : {k : ℕ} {job : Job} {s m : Left} {b : Block} → Goes k job s b m → (is : List ℕ) → From m is → From s (claims_in k b ++ is)
block_claims {k = k} {job = job} (begins {b = b} d) is h = from_claims job 0 job.temps (claims_in k b ++ is) (block_claims d is h)
block_claims {k = k} {job = job} (claimed {i = i} {ts = ts}) is h = rw (nat_eq_equiv.refl k) (one_more (from_claims job (i + 1) ts is h))
block_claims (unclaimed {i = i} {x = claim.Claimed} e) is h = absurd cc
block_claims (unclaimed {i = i} {x = claim.Taken} e) is h = subst (Runs i) (sym h) no_more
block_claims (unclaimed {i = i} {x = claim.Failed} e) is h = subst (Runs i) (sym h) no_more
block_claims {job = job} (started {g = g} {gs = gs} {kids = kids} {fault = fault} s) is h =
    ap (λ l. l ++ is) (starts_claim s) ∙ none_starts job g fault kids gs is h
block_claims {job = job} (exited {g = g} {kids = kids} {gs = gs}) is h = none_waits job g _ kids gs is h
block_claims {job = job} (signalled {g = g} {kids = kids} {gs = gs}) is h = none_waits job g true kids gs is h
block_claims {job = job} (lost {g = g} {kids = kids} {gs = gs}) is h = none_waits job g true kids gs is h
block_claims (removed {i = i} {fs = fs} e) is h = none_removals (i + 1) fs is h
block_claims (stays {i = i} {fs = fs} e) is h = none_removals (i + 1) fs is h

story_claims : {k : ℕ} {job : Job} {s : Left} {bs : List Block} → Story k job s bs → From s (claims_in k (events_of bs))
story_claims over = refl
story_claims {k = k} {s = s} (next {b = b} {bs = bs} d t) =
    subst (λ l. From s l) (sym (flat_map-append (λ e. claim_by k e.step e.answer) b (events_of bs)))
    (block_claims d (claims_in k (events_of bs)) (story_claims t))

from_begin : (gs : List (List Command)) (is : List ℕ) → From (begin_with gs) is → Runs 0 is
from_begin [] is h = subst (Runs 0) (sym h) no_more
from_begin (c ∷ gs) is h = h

-- claims are of a job's own steps
claims_only : (k : ℕ) → OnlyOf (λ e. claim_by k e.step e.answer) k
claims_only k = record { other = λ e h. by e.step e.answer h; no_report = λ n t. refl; no_close = refl }
  where
    by : (s : Step) (x : Answer) → nat_eq (source_of s) k ≡ false → claim_by k s x ≡ []
    by (step.Claim (place.Temp j i)) (answer.Claim claim.Claimed) h = rw h refl
    by (step.Claim p) (answer.Claim claim.Claimed) h = refl
    by s x h = refl

pub all_run : {plan : Plan} {N : ℕ} {E : List RunEvent} → Windowed plan N E → (k : ℕ) → Runs 0 (claims_in k E)
all_run {E = E} w k = by (own (claims_only k) w (quiet_last (claims_only k) (λ p x. refl) w.last_removals))
  where
    by : Own (λ e. claim_by k e.step e.answer) k E → Runs 0 (claims_in k E)
    by o = subst (Runs 0) (sym o.is) (from_begin o.job.groups (claims_in k (events_of o.blocks)) (story_claims o.story))

-- also before the removals at the end
pub runs_before : {plan : Plan} {N : ℕ} {ps : List Place} (E gone : List RunEvent) → Windowed plan N (E ++ gone)
    → Removals ps gone → (k : ℕ)
    → Runs 0 (claims_in k E)
runs_before E gone w r k = subst (Runs 0) (flat_map-append (λ e. claim_by k e.step e.answer) E gone
    ∙ ap (λ l. claims_in k E ++ l) (quiet_last (claims_only k) (λ p x. refl) r) ∙ append-nil (claims_in k E)) (all_run w k)

-- the number of claims says whether one is among them
run_has : (i j : ℕ) (is : List ℕ) → Runs i is → i ≤ j → list_any (λ h. nat_eq h j) is ≡ nat_lt j (i + length is)
run_has i j is no_more le = let e : nat_lt j (i + 0) ≡ false = grind (arith, nat_tests) in sym e
run_has i j is (one_more {is = rest} r) le = by (nat_eq i j) refl (λ up. run_has (i + 1) j rest r up)
  where
    by : (t : Bool) → nat_eq i j ≡ t → (i + 1 ≤ j → list_any (λ h. nat_eq h j) rest ≡ nat_lt j (i + 1 + length rest))
        → (t || list_any (λ h. nat_eq h j) rest) ≡ nat_lt j (i + length (i ∷ rest))
    by true e ih = let f : nat_lt j (i + suc (length rest)) ≡ true = grind (arith, nat_tests) in sym f
    by false e ih = ih (grind (arith, nat_tests))
        ∙ ap (λ n. nat_lt j n) (let e : i + 1 + length rest ≡ i + suc (length rest) = omega arith in e)

-- the claims that events have are those of their list
has_claims : (k i : ℕ) (E : List RunEvent) → list_any (λ e. has_claimed k i e.step e.answer) E ≡ list_any (λ h. nat_eq h i) (claims_in k E)
has_claims k i [] = refl
has_claims k i (e ∷ E) = by e.step e.answer (has_claims k i E)
  where
    by : (s : Step) (x : Answer) → list_any (λ e. has_claimed k i e.step e.answer) E ≡ list_any (λ h. nat_eq h i) (claims_in k E)
        → (has_claimed k i s x || list_any (λ e. has_claimed k i e.step e.answer) E)
        ≡ list_any (λ h. nat_eq h i) (claim_by k s x ++ claims_in k E)
    by (step.Claim (place.Temp j h)) (answer.Claim claim.Claimed) ih = here (nat_eq j k)
      where
        here : (t : Bool) → ((t && nat_eq h i) || list_any (λ e. has_claimed k i e.step e.answer) E)
            ≡ list_any (λ h. nat_eq h i) ((if t then h ∷ [] else []) ++ claims_in k E)
        here true = ap (λ t. nat_eq h i || t) ih
        here false = ih
    by (step.Claim p) (answer.Claim claim.Claimed) ih = ih
    by s x ih = ih

-- so the files that are left are those that are due
pub swept_due : (plan : Plan) (E : List RunEvent) → ((k : ℕ) → Runs 0 (claims_in k E)) → swept plan E ≡ due plan E
swept_due plan E runs = ap (λ fs. map (λ f. f.place) (each_once [] fs)) (same_filter (all_files plan))
  where
    at : (p : Place) → is_left E p ≡ is_due E p
    at (place.Temp k i) = sym (has_claims k i E ∙ run_has 0 i (claims_in k E) (runs k) (omega arith)
        ∙ ap (λ n. nat_lt i n) (let e : 0 + length (claims_in k E) ≡ length (claims_in k E) = omega arith in e))
    at (place.Marked k i) = refl
    at p = refl

    same_filter : (fs : List File) → filter (λ f. is_left E f.place) fs ≡ filter (λ f. is_due E f.place) fs
    same_filter [] = refl
    same_filter (f ∷ fs) = rw (at f.place, same_filter fs) refl
