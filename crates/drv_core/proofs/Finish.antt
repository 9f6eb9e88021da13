use Rattle.drv_words.specs.declared.steps.Place.{Place}
use Rattle.drv_core.proofs.Counting.{First, count_fewer, count_none, count_same, count_up, find, is_less, is_not_less, same, summed}
use Rattle.drv_core.proofs.Counting.{summed_down}
use Rattle.drv_core.proofs.OneWay.{no_more as none_after}
use Rattle.drv_core.proofs.Serial.{Ran, begin_beyond, begin_idle, put_here, put_other, ran_more}
use Rattle.drv_core.specs.Events.{Block, events_of}
use Rattle.drv_core.specs.Story.{Claims, Fresh, Goes, Kid, Left, Over, Removes, Starts, Story, Waits, after_starts, begin, begin_with}
use Rattle.drv_core.specs.Story.{begins as begun}
use Rattle.drv_core.specs.Story.{claimed, exited, lost, next, over, refused_first, removed, signalled, started, stays, to_claims, to_groups}
use Rattle.drv_core.specs.Story.{to_removals}
use Rattle.drv_core.specs.Story.{to_waits, unclaimed}
use Rattle.drv_core.specs.Windowed.{IsBeginning, Leads, MayCome, Removals, SourceBlock, all_removed, begins, blocks_of, count, due, goes_on}
use Rattle.drv_core.specs.Windowed.{is_flying, is_fresh, is_left, is_under_way, link_after, no_more, put, removed as removes_file}
use Rattle.drv_core.specs.Windowed.{source_at}
use Rattle.drv_words.specs.declared.answers.ClaimAnswer.TheVariants as claim
use Rattle.drv_words.specs.declared.answers.NotStarted.TheVariants.{Other}
use Rattle.drv_words.specs.declared.answers.RemoveAnswer.TheVariants as remove
use Rattle.drv_words.specs.declared.plan.Command.{Command}
use Rattle.drv_words.specs.declared.plan.Job.{Job}
use Rattle.drv_words.specs.declared.plan.Plan.{Plan}
use Rattle.drv_words.specs.declared.plan.Temp.{Temp}
use Rattle.drv_words.specs.declared.steps.RunEvent.{RunEvent}
use Rattle.std.proofs.Common.{◌≡◌, ◌⊎◌, ◌<◌, ◌≤◌, ◌+◌, ◌∙◌, ◌&&◌, Bool, false, true, List, [], ◌∷◌, ◌++◌, ap, append_assoc, arith}
use Rattle.std.proofs.Common.{if◌then◌else◌, inl, inr, length, min, nat_eq, nat_lt, not, refl, subst, suc, sym, zero, ℕ}
use Rattle.std.proofs.lemmas.Bool.Decides.{nat_tests}
use Rattle.std.proofs.lemmas.Grind.{flat_map-append}

-- From each beginning the sources, the link and the removals can be led to the end, by answers that end each story soon.

-- how far a stage is from the end
abbrev pub still : Job → Left → ℕ
still job Fresh = 1
still job (Claims i ts) = 1
still job (Starts g m gs) = 1 + length job.on_failure
still job (Waits g fault kid kids gs) = 2 + length job.on_failure + length kids
still job (Removes i fs) = 1 + length fs
still job Over = 0

still_removals : (job : Job) (i : ℕ) (fs : List (List ℕ)) → still job (to_removals i fs) ≡ length fs
still_removals job i [] = refl
still_removals job i (f ∷ fs) = omega arith

-- a block that leads nearer to the end
pub record Fails (k : ℕ) (job : Job) (s : Left) : Type 0 where
  pub b : Block
  pub m : Left
  pub goes : Goes k job s b m
  pub nearer : still job m < still job s

-- a first block that ends the story
pub record Ends (k : ℕ) (job : Job) (s : Left) : Type 0 where
  pub b : Block
  pub goes : Goes k job s b Over

ends_by : {k : ℕ} {job : Job} {s : Left} {b : Block} → Goes k job s b Over → Ends k job s
ends_by {b = b} g = record { b = b; goes = g }

fails_by : {k : ℕ} {job : Job} {s m : Left} {b : Block} → Goes k job s b m → still job m < still job s → Fails k job s
fails_by {m = m} {b = b} g lt = record { b = b; m = m; goes = g; nearer = lt }

taken : (k : ℕ) (job : Job) (i : ℕ) (ts : List Temp) → Ends k job (Claims i ts)
taken k job i ts = ends_by (unclaimed {x = claim.Taken} {told = true} refl)

no_start : (k : ℕ) (job : Job) (m : ℕ) (gs : List (List Command)) → Ends k job (Starts 0 m gs)
no_start k job m gs = ends_by (started (refused_first {why = Other} {told = true}))

ends_first : (k : ℕ) (job : Job) (ts : List Temp) → is_fresh (begin job) ≡ true → Ends k job (to_claims job 0 ts)
ends_first k job (t ∷ ts) e = taken k job 0 ts
ends_first k job [] e = by job.groups e
  where
    by : (gs : List (List Command)) → is_fresh (begin_with gs) ≡ true → Ends k job (to_groups 0 gs)
    by [] e = absurd cc
    by (c ∷ gs) e = no_start k job _ gs

pub fails : (k : ℕ) (job : Job) (s : Left) → (is_fresh s ≡ true → is_fresh (begin job) ≡ true) → is_left s ≡ true → Fails k job s
fails k job Fresh fresh l = fails_by (begun (ends_first k job job.temps (fresh refl)).goes) (omega arith)
fails k job (Claims i ts) fresh l = fails_by (taken k job i ts).goes (omega arith)
fails k job (Starts zero m gs) fresh l = fails_by (no_start k job m gs).goes (omega arith)
fails k job (Starts (suc g) m gs) fresh l = fails_by (started (refused_first {why = Other} {told = true}))
    (let is = still_removals job 0 job.on_failure in omega (arith, is))
fails k job (Waits g fault kid [] gs) fresh l = fails_by (lost {told = true})
    (let is = still_removals job 0 job.on_failure in omega (arith, is))
fails k job (Waits g fault kid (x ∷ kids) gs) fresh l = fails_by (lost {told = true}) (omega arith)
fails k job (Removes i fs) fresh l = fails_by (removed {x = remove.Missing} refl)
    (let is = still_removals job (i + 1) fs in omega (arith, is))
fails k job Over fresh l = absurd cc

-- no block leads back to the beginning

begun_removals : (i : ℕ) (fs : List (List ℕ)) → is_fresh (to_removals i fs) ≡ false
begun_removals i [] = refl
begun_removals i (f ∷ fs) = refl

begun_groups : (g : ℕ) (gs : List (List Command)) → is_fresh (to_groups g gs) ≡ false
begun_groups g [] = refl
begun_groups g (c ∷ gs) = refl

pub begun_claims : (job : Job) (i : ℕ) (ts : List Temp) → is_fresh (to_claims job i ts) ≡ false
begun_claims job i [] = begun_groups 0 job.groups
begun_claims job i (t ∷ ts) = refl

begun_waits : (job : Job) (g : ℕ) (fault : Bool) (kids : List Kid) (gs : List (List Command))
    → is_fresh (to_waits job g fault kids gs) ≡ false
begun_waits job g fault (kid ∷ kids) gs = refl
begun_waits job g true [] gs = begun_removals 0 job.on_failure
begun_waits job g false [] gs = begun_groups (g + 1) gs

begun_starts : (job : Job) (g : ℕ) (fault : Bool) (kids : List Kid) (gs : List (List Command))
    → is_fresh (after_starts job g fault kids gs) ≡ false
begun_starts job zero fault [] gs = refl
begun_starts job (suc g) fault [] gs = begun_waits job (suc g) fault [] gs
begun_starts job g fault (kid ∷ kids) gs = refl

pub begun_after : {k : ℕ} {job : Job} {s m : Left} {b : Block} → Goes k job s b m → is_fresh m ≡ false
begun_after (begun g) = begun_after g
begun_after {job = job} (claimed {i = i} {ts = ts}) = begun_claims job (i + 1) ts
begun_after (unclaimed e) = refl
begun_after {job = job} (started {g = g} {gs = gs} {kids = kids} {fault = fault} s) = begun_starts job g fault kids gs
begun_after {job = job} (exited {g = g} {kids = kids} {gs = gs}) = begun_waits job g _ kids gs
begun_after {job = job} (signalled {g = g} {kids = kids} {gs = gs}) = begun_waits job g true kids gs
begun_after {job = job} (lost {g = g} {kids = kids} {gs = gs}) = begun_waits job g true kids gs
begun_after (removed {i = i} {fs = fs} e) = begun_removals (i + 1) fs
begun_after (stays {i = i} {fs = fs} e) = begun_removals (i + 1) fs

-- tests of a stage

flies_or_not : (s : Left) → (is_under_way s && not (is_flying s)) ≡ false → is_flying s ≡ is_under_way s
flies_or_not Fresh e = refl
flies_or_not Over e = refl
flies_or_not (Waits g fault kid kids gs) e = refl
flies_or_not s e = absurd cc

way_left : (s : Left) → is_under_way s ≡ true → is_left s ≡ true
way_left Fresh e = absurd cc
way_left Over e = absurd cc
way_left s e = refl

begun_left : (s : Left) → is_fresh s ≡ false → is_left s ≡ is_under_way s
begun_left Fresh e = absurd cc
begun_left s e = refl

pub left_begun : (s : Left) → is_left s ≡ true → is_fresh s ≡ false → is_under_way s ≡ true
left_begun s l e = sym (begun_left s e) ∙ l

pub ended : (s : Left) → is_left s ≡ false → s ≡ Over
ended Over e = refl
ended s e = absurd cc

fresh_left : (s : Left) → is_fresh s ≡ true → is_left s ≡ true
fresh_left Fresh e = refl
fresh_left s e = absurd cc

free_is : (s : Left) → (is_under_way s && not (is_flying s)) ≡ true → is_flying s ≡ false
free_is (Waits g fault kid kids gs) e = absurd cc
free_is s e = refl

free_way : (s : Left) → (is_under_way s && not (is_flying s)) ≡ true → is_under_way s ≡ true
free_way Fresh e = absurd cc
free_way Over e = absurd cc
free_way s e = refl

way_begun : (s : Left) → is_under_way s ≡ true → is_fresh s ≡ false
way_begun Fresh e = absurd cc
way_begun s e = refl

fresh_lands : (s : Left) → is_fresh s ≡ true → is_flying s ≡ false
fresh_lands Fresh e = refl
fresh_lands s e = absurd cc

flying_way : (s : Left) → is_flying s ≡ true → is_under_way s ≡ true
flying_way (Waits g fault kid kids gs) e = refl
flying_way s e = absurd cc

pub clash : {t : Bool} {A : Type 0} → t ≡ true → t ≡ false → A
clash x y = absurd (let no : true ≡ false = sym x ∙ y in cc)

-- while a source is left, one may go on

pub record Next (n N : ℕ) (st : ℕ → Left) : Type 0 where
  pub k : ℕ
  pub some : is_left (st k) ≡ true
  pub may : MayCome n N st k

pub progress : (n N : ℕ) (st : ℕ → Left) → 1 ≤ N → count n (λ j. is_under_way (st j)) ≤ N
    → Next n N st ⊎ ((j : ℕ) → j < n → is_left (st j) ≡ false)
progress n N st one most = free (find n (λ j. is_under_way (st j) && not (is_flying (st j))))
  where
    -- as many as possible have a child in flight where all under way have, and the window is full or all have begun
    all_fly : ((j : ℕ) → j < n → (is_under_way (st j) && not (is_flying (st j))) ≡ false)
        → (count n (λ j. is_under_way (st j)) ≡ N) ⊎ ((j : ℕ) → j < n → is_fresh (st j) ≡ false)
        → count n (λ j. is_flying (st j)) ≡ min N (count n (λ j. is_left (st j)))
    all_fly nofree (inl full) =
        let fly : count n (λ j. is_flying (st j)) ≡ count n (λ j. is_under_way (st j)) =
        count_same n (λ j. is_flying (st j)) (λ j. is_under_way (st j)) (λ j lt. flies_or_not (st j) (nofree j lt)) in
        let fewer : count n (λ j. is_under_way (st j)) ≤ count n (λ j. is_left (st j)) =
        count_fewer n (λ j. is_under_way (st j)) (λ j. is_left (st j)) (λ j lt e. way_left (st j) e) in
        omega (arith, fly, fewer, full)
    all_fly nofree (inr begun_all) =
        let fly : count n (λ j. is_flying (st j)) ≡ count n (λ j. is_under_way (st j)) =
        count_same n (λ j. is_flying (st j)) (λ j. is_under_way (st j)) (λ j lt. flies_or_not (st j) (nofree j lt)) in
        let left : count n (λ j. is_left (st j)) ≡ count n (λ j. is_under_way (st j)) =
        count_same n (λ j. is_left (st j)) (λ j. is_under_way (st j)) (λ j lt. begun_left (st j) (begun_all j lt)) in
        omega (arith, fly, left, most)

    landed : ((j : ℕ) → j < n → (is_under_way (st j) && not (is_flying (st j))) ≡ false) → ((j : ℕ) → j < n → is_flying (st j) ≡ false)
        → (j : ℕ) → j < n → is_under_way (st j) ≡ false
    landed nofree lands j lt = sym (flies_or_not (st j) (nofree j lt)) ∙ lands j lt

    waiting : ((j : ℕ) → j < n → (is_under_way (st j) && not (is_flying (st j))) ≡ false)
        → (count n (λ j. is_under_way (st j)) ≡ N) ⊎ ((j : ℕ) → j < n → is_fresh (st j) ≡ false)
        → First n (λ j. is_flying (st j)) ⊎ ((j : ℕ) → j < n → is_flying (st j) ≡ false)
        → Next n N st ⊎ ((j : ℕ) → j < n → is_left (st j) ≡ false)
    waiting nofree full (inl f) = inl (record {
      k = f.at;
      some = way_left (st f.at) (flying_way (st f.at) f.passes);
      may = record {
        is_source = f.below;
        in_order = λ e. clash f.passes (fresh_lands (st f.at) e);
        in_window = λ e. clash f.passes (fresh_lands (st f.at) e);
        all_fly = λ e. all_fly nofree full;
      };
    })
    waiting nofree (inl full) (inr lands) = absurd (let zero_all : count n (λ j. is_under_way (st j)) ≡ 0 =
        count_none n (λ j. is_under_way (st j)) (landed nofree lands) in omega (arith, full, zero_all, one))
    waiting nofree (inr begun_all) (inr lands) = inr (λ j lt. begun_left (st j) (begun_all j lt) ∙ landed nofree lands j lt)

    room : ((j : ℕ) → j < n → (is_under_way (st j) && not (is_flying (st j))) ≡ false) → (f : First n (λ j. is_fresh (st j))) → (t : Bool)
        → nat_lt (count n (λ j. is_under_way (st j))) N ≡ t → Next n N st ⊎ ((j : ℕ) → j < n → is_left (st j) ≡ false)
    room nofree f true e = inl (record {
      k = f.at;
      some = fresh_left (st f.at) f.passes;
      may = record {
        is_source = f.below;
        in_order = λ h. f.before;
        in_window = λ h. is_less (count n (λ j. is_under_way (st j))) N e;
        all_fly = λ h. clash h (fresh_lands (st f.at) f.passes);
      };
    })
    room nofree f false e = waiting nofree
        (inl (let least = is_not_less (count n (λ j. is_under_way (st j))) N e in omega (arith, least, most)))
        (find n (λ j. is_flying (st j)))

    new : ((j : ℕ) → j < n → (is_under_way (st j) && not (is_flying (st j))) ≡ false)
        → First n (λ j. is_fresh (st j)) ⊎ ((j : ℕ) → j < n → is_fresh (st j) ≡ false)
        → Next n N st ⊎ ((j : ℕ) → j < n → is_left (st j) ≡ false)
    new nofree (inl f) = room nofree f (nat_lt (count n (λ j. is_under_way (st j))) N) refl
    new nofree (inr begun_all) = waiting nofree (inr begun_all) (find n (λ j. is_flying (st j)))

    free : First n (λ j. is_under_way (st j) && not (is_flying (st j)))
        ⊎ ((j : ℕ) → j < n → (is_under_way (st j) && not (is_flying (st j))) ≡ false)
        → Next n N st ⊎ ((j : ℕ) → j < n → is_left (st j) ≡ false)
    free (inl f) = inl (record {
      k = f.at;
      some = way_left (st f.at) (free_way (st f.at) f.passes);
      may = record {
        is_source = f.below;
        in_order = λ e. clash e (way_begun (st f.at) (free_way (st f.at) f.passes));
        in_window = λ e. clash e (way_begun (st f.at) (free_way (st f.at) f.passes));
        all_fly = λ e. clash e (free_is (st f.at) f.passes);
      };
    })
    free (inr nofree) = new nofree (find n (λ j. is_fresh (st j)))

-- What holds between blocks. `window`: at most N are under way. `sound`: what has not begun has something to do.
pub record Keeps (n N : ℕ) (job : ℕ → Job) (st : ℕ → Left) : Type 0 where
  pub window : count n (λ j. is_under_way (st j)) ≤ N
  pub sound : (j : ℕ) → is_fresh (st j) ≡ true → is_fresh (begin (job j)) ≡ true
  pub beyond : (j : ℕ) → n ≤ j → st j ≡ Over

-- where none is left, all have ended
pub all_over : {n N : ℕ} {job : ℕ → Job} {st : ℕ → Left} → Keeps n N job st → ((j : ℕ) → j < n → is_left (st j) ≡ false)
    → (j : ℕ) → st j ≡ Over
all_over {n = n} {st = st} keep none_left j = by (nat_lt j n) refl
  where
    by : (t : Bool) → nat_lt j n ≡ t → st j ≡ Over
    by true e = ended (st j) (none_left j (is_less j n e))
    by false e = keep.beyond j (is_not_less j n e)

-- before the first block
pub keeps_first : (plan : Plan) (N : ℕ) → Keeps (length plan.jobs) N (source_at plan) (begins plan)
keeps_first plan N = record {
  window = (let idle = count_none (length plan.jobs) (λ j. is_under_way (begins plan j)) (λ j lt. begin_idle (source_at plan j)) in omega
      (arith, idle));
  sound = λ j e. e;
  beyond = λ j le. begin_beyond plan.jobs j le;
}

pub keeps_more : {n N k : ℕ} {job : ℕ → Job} {st : ℕ → Left} {b : Block} {m : Left} → Keeps n N job st → MayCome n N st k
    → Goes k (job k) (st k) b m → Keeps n N job (put st k m)
keeps_more {n = n} {N = N} {k = k} {job = job} {st = st} {b = b} {m = m} keep may g = record {
  window = by (is_fresh (st k)) refl;
  sound = λ j. sounds j (nat_eq k j) refl;
  beyond = λ j le. put_other st k m j (let lt = may.is_source in grind (arith, nat_tests)) ∙ keep.beyond j le;
}
  where
    by : (t : Bool) → is_fresh (st k) ≡ t → count n (λ j. is_under_way (put st k m j)) ≤ N
    by true e =
        let up = count_up n k (λ j. is_under_way (st j)) (λ j. is_under_way (put st k m j))
        (λ j o. ap is_under_way (put_other st k m j o)) in
        let room = may.in_window e in
        omega (arith, up, room)
    by false e =
        let fewer = count_fewer n (λ j. is_under_way (put st k m j)) (λ j. is_under_way (st j)) (λ j lt. had e j (nat_eq k j) refl) in
        let most = keep.window in
        omega (arith, fewer, most)
      where
        some : is_left (st k) ≡ true
        some = left_of (is_left (st k)) refl
          where
            left_of : (t : Bool) → is_left (st k) ≡ t → t ≡ true
            left_of true h = refl
            left_of false h = absurd (none_after (subst (λ s. Goes k (job k) s b m) (ended (st k) h) g))

        had : is_fresh (st k) ≡ false → (j : ℕ) (t : Bool) → nat_eq k j ≡ t → is_under_way (if t then m else st j) ≡ true
            → is_under_way (st j) ≡ true
        had f j true is h = subst (λ i. is_under_way (st i) ≡ true) (same k j is) (left_begun (st k) some f)
        had f j false is h = h

    sounds : (j : ℕ) (t : Bool) → nat_eq k j ≡ t → is_fresh (if t then m else st j) ≡ true → is_fresh (begin (job j)) ≡ true
    sounds j true is e = clash e (begun_after g)
    sounds j false is e = keep.sound j e

-- blocks that are led on keep it
leads_keep : {n N : ℕ} {job : ℕ → Job} {st x : ℕ → Left} {bs : List SourceBlock} → Leads n N job st bs x
    → Keeps n N job st → Keeps n N job x
leads_keep no_more keep = keep
leads_keep (goes_on may g l) keep = leads_keep l (keeps_more keep may g)

-- blocks, and then blocks to the end
leads_append : {n N : ℕ} {job : ℕ → Job} {st x : ℕ → Left} {bs cs : List SourceBlock} → Leads n N job st bs x → Ran n N job x cs
    → Ran n N job st (bs ++ cs)
leads_append no_more r = r
leads_append (goes_on may g l) r = ran_more may g (leads_append l r)

-- blocks to the end
pub record Led (n N : ℕ) (job : ℕ → Job) (st : ℕ → Left) : Type 0 where
  pub blocks : List SourceBlock
  pub ran : Ran n N job st blocks

-- the sources are led to their ends, by induction on how far they are from these
finish_by : (fuel : ℕ) {n N : ℕ} {job : ℕ → Job} (st : ℕ → Left) → 1 ≤ N → Keeps n N job st → summed n (λ j. still (job j) (st j)) < fuel
    → Led n N job st
finish_by zero st one keep far = absurd (omega (arith, far))
finish_by (suc fuel) {n = n} {N = N} {job = job} st one keep far = by (progress n N st one keep.window)
    (λ k m less_far keep_more. finish_by fuel (put st k m) one keep_more (omega (arith, far, less_far)))
  where
    nearer : (k : ℕ) (m : Left) → k < n → still (job k) m < still (job k) (st k)
        → summed n (λ j. still (job j) (put st k m j)) < summed n (λ j. still (job j) (st j))
    nearer k m lt less =
        let falls : 1 + still (job k) (put st k m k) ≤ still (job k) (st k) = subst (λ s. 1 + still (job k) s ≤ still (job k) (st k))
        (sym (put_here st k m)) (omega (arith, less)) in
        let down = summed_down n k 1 (λ j. still (job j) (st j)) (λ j. still (job j) (put st k m j)) lt falls
        (λ j e. ap (still (job j)) (put_other st k m j e)) in
        omega (arith, down)

    by : Next n N st ⊎ ((j : ℕ) → j < n → is_left (st j) ≡ false)
        → ((k : ℕ) (m : Left) → summed n (λ j. still (job j) (put st k m j)) < summed n (λ j. still (job j) (st j))
        → Keeps n N job (put st k m) → Led n N job (put st k m))
        → Led n N job st
    by (inl x) go =
        let f : Fails x.k (job x.k) (st x.k) = fails x.k (job x.k) (st x.k) (keep.sound x.k) x.some in
        let led : Led n N job (put st x.k f.m) = go x.k f.m (nearer x.k f.m x.may.is_source f.nearer) (keeps_more keep x.may f.goes) in
        record { blocks = record { source = x.k; block = f.b } ∷ led.blocks; ran = ran_more x.may f.goes led.ran }
    by (inr none_left) go = record { blocks = []; ran = record { ends = st; leads = no_more; ended = all_over keep none_left } }

-- one story is led to its end
pub record Told (k : ℕ) (job : Job) (s : Left) : Type 0 where
  pub blocks : List Block
  pub story : Story k job s blocks

pub tells : (fuel k : ℕ) (job : Job) (s : Left) → (is_fresh s ≡ true → is_fresh (begin job) ≡ true) → still job s < fuel → Told k job s
tells zero k job s fresh lt = absurd (omega (arith, lt))
tells (suc fuel) k job s fresh lt = by (is_left s) refl (λ f. tells fuel k job f.m (λ e. clash e (begun_after f.goes))
    (let less = f.nearer in omega (arith, lt, less)))
  where
    by : (t : Bool) → is_left s ≡ t → ((f : Fails k job s) → Told k job f.m) → Told k job s
    by true e go = let f : Fails k job s = fails k job s fresh e in record {
      blocks = f.b ∷ (go f).blocks;
      story =
          next f.goes (go f).story;
    }
    by false e go = record { blocks = []; story = subst (λ x. Story k job x []) (sym (ended s e)) over }

-- files are removed
pub record Cleared (fs : List Place) : Type 0 where
  pub events : List RunEvent
  pub removals : Removals fs events

pub clears : (fs : List Place) → Cleared fs
clears [] = record { events = []; removals = all_removed }
clears (f ∷ fs) = by (clears fs)
  where
    by : Cleared fs → Cleared (f ∷ fs)
    by c = cleared (removes_file {x = remove.Missing} refl c.removals)
      where
        cleared : {events : List RunEvent} → Removals (f ∷ fs) events → Cleared (f ∷ fs)
        cleared {events = events} r = record { events = events; removals = r }

pub blocks_append : (bs cs : List SourceBlock) → blocks_of (bs ++ cs) ≡ blocks_of bs ++ blocks_of cs
blocks_append [] cs = refl
blocks_append (b ∷ bs) cs = ap (λ l. b.block ∷ l) (blocks_append bs cs)

-- each beginning of the sources' blocks can be led to a whole run
pub each_beginning_ends : (plan : Plan) (N : ℕ) (blocks : List SourceBlock) (st : ℕ → Left) → 1 ≤ N
    → Leads (length plan.jobs) N (source_at plan) (begins plan) blocks st → IsBeginning plan N (events_of (blocks_of blocks))
each_beginning_ends plan N blocks st one leads = record {
  rest = events_of (blocks_of led.blocks) ++ (events_of link.blocks ++ last.events);
  whole = record {
    blocks = blocks ++ led.blocks;
    ends = all.ends;
    link = link.blocks;
    last = last.events;
    events = sym (ap (λ l. l ++ (events_of link.blocks ++ last.events)) (ap events_of (blocks_append blocks led.blocks)
        ∙ flat_map-append (λ b. b) (blocks_of blocks) (blocks_of led.blocks))
        ∙ append_assoc (events_of (blocks_of blocks)) (events_of (blocks_of led.blocks)) (events_of link.blocks ++ last.events));
    leads = all.leads;
    ended = all.ended;
    link_story = link.story;
    last_removals = last.removals;
  };
}
  where
    led : Led (length plan.jobs) N (source_at plan) st
    led = finish_by (suc (summed (length plan.jobs) (λ j. still (source_at plan j) (st j)))) st one (leads_keep leads (keeps_first plan N))
        (omega arith)

    all : Ran (length plan.jobs) N (source_at plan) (begins plan) (blocks ++ led.blocks)
    all = leads_append leads led.ran

    job : Job
    job = link_after plan (events_of (blocks_of (blocks ++ led.blocks)))

    link : Told (length plan.jobs) job (begin job)
    link = tells (suc (still job (begin job))) (length plan.jobs) job (begin job) (λ e. e) (omega arith)

    last : Cleared (due plan (events_of (blocks_of (blocks ++ led.blocks)) ++ events_of link.blocks))
    last = clears (due plan (events_of (blocks_of (blocks ++ led.blocks)) ++ events_of link.blocks))
