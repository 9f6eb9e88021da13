use Rattle.drv_core.proofs.Counting.{count_none, count_other, count_some, is_less, is_not_less, same}
use Rattle.drv_core.specs.Events.{Block}
use Rattle.drv_core.specs.Serial.{blocks_with, by_source}
use Rattle.drv_core.specs.Story.{Fresh, Goes, Left, Over, Story, Waits, begin, begin_with, next, over}
use Rattle.drv_core.specs.Windowed.{Leads, MayCome, SourceBlock, begins, count, goes_on, is_flying, is_fresh, is_left, is_under_way}
use Rattle.drv_core.specs.Windowed.{no_more, of}
use Rattle.drv_core.specs.Windowed.{put, source_at}
use Rattle.drv_words.specs.Places.{no_job}
use Rattle.drv_words.specs.declared.plan.Command.{Command}
use Rattle.drv_words.specs.declared.plan.Job.{Job}
use Rattle.drv_words.specs.declared.plan.Plan.{Plan}
use Rattle.std.proofs.Common.{◌≡◌, ◌<◌, ◌≤◌, ◌+◌, ◌∙◌, Bool, false, true, List, [], ◌∷◌, ◌++◌, ap, arith, get_or, if◌then◌else◌, length}
use Rattle.std.proofs.Common.{nat_eq, nat_lt, refl, subst, suc, sym, zero, ℕ}
use Rattle.std.proofs.lemmas.Bool.Decides.{nat_tests}
use Rattle.std.proofs.lemmas.Cmp.{nat_eq_equiv}

-- The blocks of a run, taken source by source, lead to the end in a window of one.

-- the blocks of each source are its story
pub told : {n N : ℕ} {job : ℕ → Job} {st end : ℕ → Left} {bs : List SourceBlock} → Leads n N job st bs end → ((k : ℕ) → end k ≡ Over)
    → (k : ℕ) → Story k (job k) (st k) (of k bs)
told {job = job} {st = st} no_more ended k = subst (λ s. Story k (job k) s []) (sym (ended k)) over
told {job = job} {st = st} (goes_on {k = i} {b = b} {m = m} {bs = bs} may g rest) ended k = by (nat_eq i k) refl (told rest ended k)
  where
    by : (t : Bool) → nat_eq i k ≡ t → Story k (job k) (if t then m else st k) (of k bs)
        → Story k (job k) (st k) (if t then b ∷ of k bs else of k bs)
    by true e s = next (subst (λ x. Goes x (job x) (st x) b m) (same i k e) g) s
    by false e s = s

-- stages of one story

pub fresh_waits : (s : Left) → is_fresh s ≡ true → is_under_way s ≡ false
fresh_waits Fresh e = refl
fresh_waits s e = absurd cc

pub idle_lands : (s : Left) → is_under_way s ≡ false → is_flying s ≡ false
idle_lands (Waits g fault kid kids gs) e = absurd cc
idle_lands s e = refl

pub flying_left : (s : Left) → is_flying s ≡ true → is_left s ≡ true
flying_left (Waits g fault kid kids gs) e = refl
flying_left s e = absurd cc

-- blocks that lead to the end
pub record Ran (n N : ℕ) (job : ℕ → Job) (st : ℕ → Left) (bs : List SourceBlock) : Type 0 where
  pub ends : ℕ → Left
  pub leads : Leads n N job st bs ends
  pub ended : (k : ℕ) → ends k ≡ Over

-- sources before k have ended, and none but k is under way
pub record Alone (st : ℕ → Left) (k : ℕ) : Type 0 where
  pub earlier : (j : ℕ) → j < k → st j ≡ Over
  pub others : (j : ℕ) → nat_eq k j ≡ false → is_under_way (st j) ≡ false

-- a source that is alone may go on
may : (n : ℕ) (st : ℕ → Left) (k : ℕ) → k < n → Alone st k → MayCome n 1 st k
may n st k lt a = record {
  is_source = lt;
  in_order = λ e j below. rw (a.earlier j below) refl;
  in_window = λ e. (let none : count n (λ j. is_under_way (st j)) ≡ 0 = count_none n (λ j. is_under_way (st j))
      (λ j below. idle e j (nat_eq k j) refl) in
      omega (arith, none));
  all_fly = λ e. (let most : count n (λ j. is_flying (st j)) ≤ 1 = count_other n k (λ j. is_flying (st j))
      (λ j other. idle_lands (st j) (a.others j (turn j other))) in
      let least : 1 ≤ count n (λ j. is_flying (st j)) = count_some n k (λ j. is_flying (st j)) lt e in
      let some : 1 ≤ count n (λ j. is_left (st j)) = count_some n k (λ j. is_left (st j)) lt (flying_left (st k) e) in
      omega (arith, most, least, some));
}
  where
    turn : (j : ℕ) → nat_eq j k ≡ false → nat_eq k j ≡ false
    turn j e = grind (arith, nat_tests)

    idle : is_fresh (st k) ≡ true → (j : ℕ) (t : Bool) → nat_eq k j ≡ t → is_under_way (st j) ≡ false
    idle e j true is = subst (λ i. is_under_way (st i) ≡ false) (same k j is) (fresh_waits (st k) e)
    idle e j false is = a.others j is

-- another source keeps its stage
pub put_other : (st : ℕ → Left) (k : ℕ) (m : Left) (j : ℕ) → nat_eq k j ≡ false → put st k m j ≡ st j
put_other st k m j e = rw e refl

pub put_here : (st : ℕ → Left) (k : ℕ) (m : Left) → put st k m k ≡ m
put_here st k m = rw (nat_eq_equiv.refl k) refl

-- one block more
pub ran_more : {n N k : ℕ} {job : ℕ → Job} {st : ℕ → Left} {b : Block} {m : Left} {bs : List SourceBlock} → MayCome n N st k
    → Goes k (job k) (st k) b m → Ran n N job (put st k m) bs → Ran n N job st (record { source = k; block = b } ∷ bs)
ran_more may g r = record { ends = r.ends; leads = goes_on may g r.leads; ended = r.ended }

alone_put : {st : ℕ → Left} {k : ℕ} (m : Left) → Alone st k → Alone (put st k m) k
alone_put {st = st} {k = k} m a = record {
  earlier = λ j lt. put_other st k m j (grind (arith, nat_tests)) ∙ a.earlier j lt;
  others = λ j e. ap is_under_way (put_other st k m j e) ∙ a.others j e;
}

-- source k alone is led to its end, and then what follows
walk : {n k : ℕ} {job : ℕ → Job} {s : Left} {bs : List Block} → Story k (job k) s bs → (st : ℕ → Left) → s ≡ st k → k < n → Alone st k
    → (after : List SourceBlock) → ((new : ℕ → Left) → new k ≡ Over → ((j : ℕ) → nat_eq k j ≡ false → new j ≡ st j) → Ran n 1 job new after)
    → Ran n 1 job st (blocks_with k bs ++ after)
walk over st is lt a after go = go st (sym is) (λ j e. refl)
walk {n = n} {k = k} {job = job} (next {m = m} {b = b} g s) st is lt a after go =
    ran_more (may n st k lt a) (subst (λ x. Goes k (job k) x b m) is g)
    (walk s (put st k m) (sym (put_here st k m)) lt (alone_put m a) after
    (λ new end same_rest. go new end (λ j e. same_rest j e ∙ put_other st k m j e)))

-- the sources before k have ended, and none is under way
pub record Ready (n : ℕ) (job : ℕ → Job) (bs : List SourceBlock) (k : ℕ) (st : ℕ → Left) : Type 0 where
  pub stories : (j : ℕ) → k ≤ j → Story j (job j) (st j) (of j bs)
  pub earlier : (j : ℕ) → j < k → st j ≡ Over
  pub idle : (j : ℕ) → is_under_way (st j) ≡ false
  pub beyond : (j : ℕ) → n ≤ j → st j ≡ Over

-- after source k has ended
ready_next : {n k : ℕ} {job : ℕ → Job} {bs : List SourceBlock} {st new : ℕ → Left} → k < n → Ready n job bs k st → new k ≡ Over
    → ((j : ℕ) → nat_eq k j ≡ false → new j ≡ st j) → Ready n job bs (k + 1) new
ready_next {n = n} {k = k} {job = job} {bs = bs} {st = st} {new = new} lt r end others = record {
  stories = λ j le. subst (λ s. Story j (job j) s (of j bs)) (sym (others j (grind (arith, nat_tests)))) (r.stories j (omega arith));
  earlier = λ j below. by (λ s. s ≡ Over) j (nat_eq k j) refl refl (λ e. r.earlier j (grind (arith, nat_tests)));
  idle = λ j. by (λ s. is_under_way s ≡ false) j (nat_eq k j) refl refl (λ e. r.idle j);
  beyond = λ j le. by (λ s. s ≡ Over) j (nat_eq k j) refl refl (λ e. r.beyond j le);
}
  where
    by : (P : Left → Type 0) (j : ℕ) (t : Bool) → nat_eq k j ≡ t → P Over → (nat_eq k j ≡ false → P (st j)) → P (new j)
    by P j true e here there = subst P (sym (subst (λ i. new i ≡ Over) (same k j e) end)) here
    by P j false e here there = subst P (sym (others j e)) (there e)

-- m sources from number k on, each led to its end
pub walks : {n : ℕ} {job : ℕ → Job} (bs : List SourceBlock) (k m : ℕ) (st : ℕ → Left) → k + m ≡ n → Ready n job bs k st
    → Ran n 1 job st (by_source k m bs)
walks bs k zero st is r = record { ends = st; leads = no_more; ended = λ j. by j (nat_lt j k) refl }
  where
    by : (j : ℕ) (t : Bool) → nat_lt j k ≡ t → st j ≡ Over
    by j true e = r.earlier j (is_less j k e)
    by j false e = r.beyond j (let le = is_not_less j k e in omega (arith, le, is))
walks {n = n} bs k (suc m) st is r = walk (r.stories k (omega arith)) st refl (omega (arith, is))
    (record { earlier = r.earlier; others = λ j e. r.idle j }) (by_source (k + 1) m bs)
    (λ new end others. walks bs (k + 1) m new (omega (arith, is)) (ready_next (omega (arith, is)) r end others))

-- at the start no source is under way, and a number beyond the sources is no source
pub begin_idle : (job : Job) → is_under_way (begin job) ≡ false
begin_idle job = by job.groups
  where
    by : (gs : List (List Command)) → is_under_way (begin_with gs) ≡ false
    by [] = refl
    by (c ∷ gs) = refl

pub begin_beyond : (jobs : List Job) (j : ℕ) → length jobs ≤ j → begin (get_or jobs j no_job) ≡ Over
begin_beyond [] j le = refl
begin_beyond (job ∷ jobs) zero le = absurd (omega (arith, le))
begin_beyond (job ∷ jobs) (suc j) le = begin_beyond jobs j (omega (arith, le))

-- the sources of a run, source by source
pub serial_runs : (plan : Plan) {N : ℕ} {bs : List SourceBlock} {ends : ℕ → Left}
    → Leads (length plan.jobs) N (source_at plan) (begins plan) bs ends
    → ((k : ℕ) → ends k ≡ Over) → Ran (length plan.jobs) 1 (source_at plan) (begins plan) (by_source 0 (length plan.jobs) bs)
serial_runs plan {bs = bs} l ended = walks bs 0 (length plan.jobs) (begins plan) (omega arith) (record {
  stories = λ j le. told l ended j;
  earlier = λ j lt. absurd (omega (arith, lt));
  idle = λ j. begin_idle (source_at plan j);
  beyond = λ j le. begin_beyond plan.jobs j (omega (arith, le));
})
