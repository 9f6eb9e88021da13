use Rattle.drv_core.proofs.Counting.{count_none, count_same, count_some, count_with, is_less, is_not_less, same}
use Rattle.drv_core.proofs.Finish.{Keeps, Next, all_over, clash, left_begun, progress}
use Rattle.drv_core.proofs.Listed.{Is, listed, listed_at, listed_below, listed_filter, listed_length, listed_more, listed_same}
use Rattle.drv_core.proofs.Serial.{begin_idle, put_here, put_other}
use Rattle.drv_core.proofs.Tests.{and_false, and_true, or_false, or_true}
use Rattle.drv_core.specs.Choices.{may_at, may_go_on}
use Rattle.drv_core.specs.Code.Fleet.{Fleet, able, all_fly, closed, ended, first_busy, going, may_begin, may_go, opened}
use Rattle.drv_core.specs.Code.Machine.{Out}
use Rattle.drv_core.specs.Code.Turns.{awaits, is_left as more_left}
use Rattle.drv_core.specs.Events.{none}
use Rattle.drv_core.specs.Story.{Fresh, Left, Over, Waits, begin, begin_with}
use Rattle.drv_core.specs.Windowed.{MayCome, count, is_flying, is_fresh, is_left, is_under_way, put}
use Rattle.drv_words.specs.Places.{no_job}
use Rattle.drv_words.specs.declared.plan.Command.{Command}
use Rattle.drv_words.specs.declared.plan.Job.{Job}
use Rattle.std.proofs.Common.{◌≡◌, ◌<◌, ◌≤◌, ◌+◌, ◌-◌, ◌∙◌, ◌&&◌, ◌||◌, ◌⊎◌, Bool, false, true, List, [], ◌∷◌, ◌++◌, ap, append-nil, arith}
use Rattle.std.proofs.Common.{drop}
use Rattle.std.proofs.Common.{get_or, get_or-drop, if◌then◌else◌, inl, inr, length, min, nat_eq, nat_lt, not, refl, subst, suc, sym, zero}
use Rattle.std.proofs.Common.{ℕ}
use Rattle.std.proofs.Math.Path.{fun_ext}
use Rattle.std.proofs.lemmas.Bool.{and_parts}
use Rattle.std.proofs.lemmas.Bool.Decides.{nat_tests}
use Rattle.std.proofs.lemmas.Cmp.{nat_eq_equiv}
use Rattle.std.proofs.lemmas.List.{length-drop}
use Rattle.std.specs.List.{filter}

-- The code counts and lists sources: those under way, those that have not ended, and the next one that begins. They are what the stages say.

abbrev pub Stages : Type 0
Stages = ℕ → Left

-- `begun` and `unended`: the code's list and count. `next`: every earlier source has begun, and none from it on. `beyond`: past the sources
-- nothing is to be done.
pub record Tallied (jobs : List Job) (N : ℕ) (st : Stages) (f : Fleet) : Type 0 where
  pub begun : f.begun ≡ listed (length jobs) (λ j. is_under_way (st j))
  pub unended : f.unended ≡ count (length jobs) (λ j. is_left (st j))
  pub window : f.window ≡ N
  pub next_in : f.next ≤ length jobs
  pub before : (j : ℕ) → j < f.next → is_fresh (st j) ≡ false
  pub after : (j : ℕ) → f.next ≤ j → st j ≡ begin (get_or jobs j no_job)
  pub at_next : f.next < length jobs → is_fresh (st f.next) ≡ true

-- whether a source at this stage may go on

-- a source that has begun may go on while it is under way, and with a wait where all fly
-- whether as many have a child in flight as can
abbrev fly : ℕ → ℕ → Stages → Bool
fly n N st = nat_eq (count n (λ j. is_flying (st j))) (min N (count n (λ j. is_left (st j))))

may_begun : (n N : ℕ) (st : Stages) (k : ℕ) (s : Left) → is_fresh s ≡ false → may_at n N st k s
    ≡ (is_under_way s && (fly n N st || not (is_flying s)))
may_begun n N st k Fresh e = absurd cc
may_begun n N st k (Waits g fault kid kids gs) e = sym (or_false (fly n N st))
may_begun n N st k Over e = refl
may_begun n N st k s e = sym (or_true (fly n N st))

-- one that has not begun may where no earlier one is so, and there is room
may_fresh : (n N : ℕ) (st : Stages) (k : ℕ) (s : Left) → is_fresh s ≡ true → may_at n N st k s
    ≡ (nat_eq (count k (λ j. is_fresh (st j))) 0 && nat_lt (count n (λ j. is_under_way (st j))) N)
may_fresh n N st k Fresh e = refl
may_fresh n N st k s e = absurd cc

-- the test is the rule
none_counted : (k : ℕ) (p : ℕ → Bool) → count k p ≡ 0 → (j : ℕ) → j < k → p j ≡ false
none_counted k p e j lt = by (p j) refl
  where
    by : (t : Bool) → p j ≡ t → t ≡ false
    by true is = absurd (let some = count_some k j p lt is in omega (arith, some, e))
    by false is = refl

pub may_come : (n N : ℕ) (st : Stages) (k : ℕ) → k < n → may_go_on n N st k ≡ true → (MayCome n N st k) × (is_left (st k) ≡ true)
may_come n N st k lt e = (
  record {
    is_source = lt;
    in_order = λ f. none_counted k (λ j. is_fresh (st j)) (same (count k (λ j. is_fresh (st j))) 0 (fresh f).0);
    in_window = λ f. is_less (count n (λ j. is_under_way (st j))) N (fresh f).1;
    all_fly = λ f. flies (st k) f e;
  },
  left (st k) e,
)
  where
    fresh : is_fresh (st k) ≡ true → (nat_eq (count k (λ j. is_fresh (st j))) 0 ≡ true)
        × (nat_lt (count n (λ j. is_under_way (st j))) N ≡ true)
    fresh f = and_parts (nat_eq (count k (λ j. is_fresh (st j))) 0) (nat_lt (count n (λ j. is_under_way (st j))) N)
        (sym (may_fresh n N st k (st k) f) ∙ e)

    flies : (s : Left) → is_flying s ≡ true → may_at n N st k s ≡ true → count n (λ j. is_flying (st j))
        ≡ min N (count n (λ j. is_left (st j)))
    flies (Waits g fault kid kids gs) f e = same (count n (λ j. is_flying (st j))) (min N (count n (λ j. is_left (st j)))) e
    flies s f e = absurd cc

    left : (s : Left) → may_at n N st k s ≡ true → is_left s ≡ true
    left Over e = absurd cc
    left s e = refl

may_is : (n N : ℕ) (st : Stages) (k : ℕ) → MayCome n N st k → is_left (st k) ≡ true → may_go_on n N st k ≡ true
may_is n N st k m left = by (st k) refl left
  where
    by : (s : Left) → st k ≡ s → is_left s ≡ true → may_at n N st k s ≡ true
    by Fresh e l =
        let z = count_none k (λ j. is_fresh (st j)) (m.in_order (ap is_fresh e)) in
        let room = m.in_window (ap is_fresh e) in
        let first : nat_eq (count k (λ j. is_fresh (st j))) 0 ≡ true = grind (arith, nat_tests) in
        let fits : nat_lt (count n (λ j. is_under_way (st j))) N ≡ true = grind (arith, nat_tests) in
        rw (first, fits) refl
    by (Waits g fault kid kids gs) e l =
        let flown = m.all_fly (ap is_flying e) in
        let all : fly n N st ≡ true = grind (arith, nat_tests) in
        all
    by Over e l = absurd cc
    by s e l = refl

-- The code's list of those that may go on.

under_way_at : {jobs : List Job} {N : ℕ} {st : Stages} {f : Fleet} → Tallied jobs N st f → (j : ℕ) → f.next ≤ j
    → is_under_way (st j) ≡ false
under_way_at {jobs = jobs} t j le = ap is_under_way (t.after j le) ∙ begin_idle (get_or jobs j no_job)

flying_under_way : (s : Left) → is_flying s ≡ (is_under_way s && is_flying s)
flying_under_way Fresh = refl
flying_under_way Over = refl
flying_under_way s = refl

-- those under way may go on as the stages say
going_is : {jobs : List Job} {N : ℕ} {st : Stages} {f : Fleet} → Tallied jobs N st f → ((j : ℕ) → f.turns j ≡ Out (st j))
    → going f ≡ listed (length jobs) (λ j. is_under_way (st j) && (fly (length jobs) N st || not (is_flying (st j))))
going_is {jobs = jobs} {N = N} {st = st} {f = f} t turns =
    ap (λ all. filter (may_go all f) f.begun) all_is ∙ ap (λ tn. filter (λ k. all || not (awaits (tn k))) f.begun) (fun_ext turns)
    ∙ ap (filter (λ k. all || not (is_flying (st k)))) t.begun
    ∙ listed_filter (length jobs) (λ j. is_under_way (st j)) (λ k. all || not (is_flying (st k)))
  where
    all : Bool
    all = fly (length jobs) N st

    flying_is : length (filter (λ k. awaits (f.turns k)) f.begun) ≡ count (length jobs) (λ j. is_flying (st j))
    flying_is = ap (λ tn. length (filter (λ k. awaits (tn k)) f.begun)) (fun_ext turns)
        ∙ ap (λ l. length (filter (λ k. is_flying (st k)) l)) t.begun
        ∙ ap (λ (l : List ℕ). length l) (listed_filter (length jobs) (λ j. is_under_way (st j)) (λ j. is_flying (st j))
        ∙ listed_same (length jobs) (λ j. is_under_way (st j) && is_flying (st j)) (λ j. is_flying (st j))
        (λ j lt. sym (flying_under_way (st j))))
        ∙ listed_length (length jobs) (λ j. is_flying (st j))

    all_is : all_fly f ≡ all
    all_is = rw (flying_is, t.window, t.unended) refl

pub able_is : {jobs : List Job} {N : ℕ} {st : Stages} {f : Fleet} → Tallied jobs N st f → ((j : ℕ) → f.turns j ≡ Out (st j))
    → able jobs f ≡ listed (length jobs) (may_go_on (length jobs) N st)
able_is {jobs = jobs} {N = N} {st = st} {f = f} t turns = ap (λ l. l ++ (if may_begin jobs f then f.next ∷ [] else [])) (going_is t turns)
    ∙ by (nat_lt f.next (length jobs)) refl
  where
    ok : ℕ → Bool
    ok j = is_under_way (st j) && (fly (length jobs) N st || not (is_flying (st j)))

    may : ℕ → Bool
    may j = may_go_on (length jobs) N st j

    begun_count : length f.begun ≡ count (length jobs) (λ j. is_under_way (st j))
    begun_count = ap (λ (l : List ℕ). length l) t.begun ∙ listed_length (length jobs) (λ j. is_under_way (st j))

    lows : (j : ℕ) → j < f.next → ok j ≡ may j
    lows j lt = sym (may_begun (length jobs) N st j (st j) (t.before j lt))

    off : (j : ℕ) → f.next ≤ j → ok j ≡ false
    off j le = rw (under_way_at t j le) refl

    past : f.next < length jobs → (j : ℕ) → f.next < j → may j ≡ false
    past lt j less = fresh (is_fresh (st j)) refl
      where
        fresh : (u : Bool) → is_fresh (st j) ≡ u → may j ≡ false
        fresh true e = may_fresh (length jobs) N st j (st j) e
            ∙ (let one = count_some j f.next (λ i. is_fresh (st i)) less (t.at_next lt) in
            let z : nat_eq (count j (λ i. is_fresh (st i))) 0 ≡ false = grind (arith, nat_tests) in rw z refl)
        fresh false e = may_begun (length jobs) N st j (st j) e ∙ off j (omega (arith, less))

    here : f.next < length jobs → may f.next ≡ nat_lt (length f.begun) f.window
    here lt = may_fresh (length jobs) N st f.next (st f.next) (t.at_next lt)
        ∙ rw (count_none f.next (λ i. is_fresh (st i)) t.before, begun_count, t.window) refl

    by : (u : Bool) → nat_lt f.next (length jobs) ≡ u → listed (length jobs) ok
        ++ (if u && nat_lt (length f.begun) f.window then f.next ∷ [] else []) ≡ listed (length jobs) may
    by true e =
        let lt : f.next < length jobs = is_less f.next (length jobs) e in
        ap (λ l. l ++ (if nat_lt (length f.begun) f.window then f.next ∷ [] else []))
        (listed_below (length jobs) f.next ok (omega (arith, lt)) (λ j le less. off j le)
        ∙ listed_same f.next ok may lows) ∙ ap (λ (u : Bool). listed f.next may ++ (if u then f.next ∷ [] else [])) (sym (here lt))
        ∙ sym (listed_below (length jobs) (suc f.next) may (omega (arith, lt)) (λ j le less. past lt j (omega (arith, le))))
    by false e =
        let le : length jobs ≤ f.next = is_not_less f.next (length jobs) e in
        append-nil (listed (length jobs) ok) ∙ listed_same (length jobs) ok may (λ j lt. lows j (omega (arith, le, lt)))

-- While a source is left, one may go on, and so the first of those that may.

-- an index past the end of a list finds the default, as if that were the last item
found_after : (xs : List ℕ) (n k : ℕ) → get_or xs k n ≡ get_or (xs ++ n ∷ []) k n
found_after [] n zero = refl
found_after [] n (suc k) = refl
found_after (x ∷ xs) n zero = refl
found_after (x ∷ xs) n (suc k) = found_after xs n k

-- the k-th of the sources that may go on is found without a list of them
pub able_at : (jobs : List Job) (f : Fleet) (k : ℕ) → get_or (going f) k f.next ≡ get_or (able jobs f) k f.next
able_at jobs f k = by (may_begin jobs f)
  where
    by : (t : Bool) → get_or (going f) k f.next ≡ get_or (going f ++ (if t then f.next ∷ [] else [])) k f.next
    by true = found_after (going f) f.next k
    by false = ap (λ l. get_or l k f.next) (sym (append-nil (going f)))

-- the k-th that may go on is the k-th by the stages
pub chosen_is : {jobs : List Job} {N : ℕ} {st : Stages} {f : Fleet} → Tallied jobs N st f → ((j : ℕ) → f.turns j ≡ Out (st j)) → (k : ℕ)
    → k < count (length jobs) (may_go_on (length jobs) N st)
    → Is (length jobs) (may_go_on (length jobs) N st) k (get_or (going f) k f.next)
chosen_is {jobs = jobs} {N = N} {st = st} {f = f} t turns k lt =
    subst (λ c. Is (length jobs) (may_go_on (length jobs) N st) k c)
    (sym (able_at jobs f k ∙ ap (λ l. get_or l k f.next) (able_is t turns)))
    (listed_at (length jobs) k (may_go_on (length jobs) N st) f.next lt)

-- while one is left, some may
pub some_may : {n N : ℕ} {job : ℕ → Job} {st : Stages} → 1 ≤ N → Keeps n N job st
    → (0 < count n (may_go_on n N st)) ⊎ ((j : ℕ) → st j ≡ Over)
some_may {n = n} {N = N} {st = st} one keep = by (progress n N st one keep.window)
  where
    by : Next n N st ⊎ ((j : ℕ) → j < n → is_left (st j) ≡ false) → (0 < count n (may_go_on n N st)) ⊎ ((j : ℕ) → st j ≡ Over)
    by (inl x) = inl (count_some n x.k (may_go_on n N st) x.may.is_source (may_is n N st x.k x.may x.some))
    by (inr h) = inr (all_over keep h)

-- A block of the source in progress is counted.

-- The first source from a number on that has something to do: where it is, that those before it are idle, and that it is busy.
pub first_is : (k : ℕ) (jobs : List Job) (at : ℕ → Job) → ((i : ℕ) → i < length jobs → get_or jobs i no_job ≡ at (k + i))
    → (k ≤ first_busy k jobs) × (first_busy k jobs ≤ k + length jobs) × ((j : ℕ) → k ≤ j → j < first_busy k jobs
    → none (at j).groups ≡ true)
    × (first_busy k jobs < k + length jobs → none (at (first_busy k jobs)).groups ≡ false)
first_is k [] at is = (omega arith, omega arith, (λ j le lt. absurd (omega (arith, le, lt))), (λ lt. absurd (omega (arith, lt))))
first_is k (job ∷ jobs) at is = by (none job.groups) refl (first_is (k + 1) jobs at (λ i lt. is (suc i) (omega (arith, lt))
    ∙ ap at (let e : k + suc i ≡ k + 1 + i = omega arith in e)))
  where
    here : job ≡ at k
    here = is 0 (omega arith) ∙ ap at (omega arith)

    by : (t : Bool) → none job.groups ≡ t
        → ((k + 1 ≤ first_busy (k + 1) jobs) × (first_busy (k + 1) jobs ≤ k + 1 + length jobs)
        × ((j : ℕ) → k + 1 ≤ j → j < first_busy (k + 1) jobs → none (at j).groups ≡ true)
        × (first_busy (k + 1) jobs < k + 1 + length jobs → none (at (first_busy (k + 1) jobs)).groups ≡ false))
        → (k ≤ (if t then first_busy (k + 1) jobs else k)) × ((if t then first_busy (k + 1) jobs else k) ≤ k + length (job ∷ jobs))
        × ((j : ℕ) → k ≤ j → j < (if t then first_busy (k + 1) jobs else k) → none (at j).groups ≡ true)
        × ((if t then first_busy (k + 1) jobs else k) < k + length (job ∷ jobs)
        → none (at (if t then first_busy (k + 1) jobs else k)).groups ≡ false)
    by true e ih =
        let a = ih.0 in
        let b = ih.1 in
        (omega (arith, a), omega (arith, b), (λ j le lt. idle j (nat_eq k j) refl le lt), (λ lt. ih.3 (omega (arith, lt))))
      where
        idle : (j : ℕ) (u : Bool) → nat_eq k j ≡ u → k ≤ j → j < first_busy (k + 1) jobs → none (at j).groups ≡ true
        idle j true is le lt = subst (λ i. none (at i).groups ≡ true) (same k j is) (subst (λ x. none x.groups ≡ true) here e)
        idle j false is le lt = ih.2 j (grind (arith, nat_tests)) lt
    by false e ih = (
      omega arith,
      omega arith,
      (λ j le lt. absurd (omega (arith, le, lt))),
      (λ lt. subst (λ x. none x.groups ≡ false) here e),
    )

-- After the first block of a source it is in the list, and after any other it was.
pub record Opened (jobs : List Job) (N : ℕ) (st : Stages) (k : ℕ) (m : Left) (g : Fleet) : Type 0 where
  pub begun : g.begun ≡ listed (length jobs) (λ j. is_under_way (st j) || nat_eq k j)
  pub unended : g.unended ≡ count (length jobs) (λ j. is_left (st j))
  pub window : g.window ≡ N
  pub next_in : g.next ≤ length jobs
  pub before : (j : ℕ) → j < g.next → is_fresh (put st k m j) ≡ false
  pub after : (j : ℕ) → g.next ≤ j → put st k m j ≡ begin (get_or jobs j no_job)
  pub at_next : g.next < length jobs → is_fresh (put st k m g.next) ≡ true
  pub current : g.current ≡ k
  pub turn : g.turns k ≡ Out m

pub fresh_is : (job : Job) → is_fresh (begin job) ≡ not (none job.groups)
fresh_is job = by job.groups
  where
    by : (gs : List (List Command)) → is_fresh (begin_with gs) ≡ not (none gs)
    by [] = refl
    by (c ∷ gs) = refl

begin_fresh : (job : Job) → is_left (begin job) ≡ true → is_fresh (begin job) ≡ true
begin_fresh job = by job.groups
  where
    by : (gs : List (List Command)) → is_left (begin_with gs) ≡ true → is_fresh (begin_with gs) ≡ true
    by [] e = absurd cc
    by (c ∷ gs) e = refl

get_drop : (n i : ℕ) (xs : List Job) → get_or (drop n xs) i no_job ≡ get_or xs (n + i) no_job
get_drop n i xs = get_or-drop n xs i no_job

open_is : {jobs : List Job} {N : ℕ} {st : Stages} {f : Fleet} {k : ℕ} {m : Left} → Tallied jobs N st f → MayCome (length jobs) N st k
    → is_left (st k) ≡ true → is_fresh m ≡ false → f.current ≡ k → f.turns k ≡ Out m → Opened jobs N st k m (opened jobs f)
open_is {jobs = jobs} {N = N} {st = st} {f = f} {k = k} {m = m} t may left begun_m at turn = by (nat_eq f.current f.next) refl
  where
    lt : k < length jobs
    lt = may.is_source

    same_or : (j : ℕ) → nat_eq k j ≡ false → (is_under_way (st j) || nat_eq k j) ≡ is_under_way (st j)
    same_or j e = rw e (or_false (is_under_way (st j)))

    by : (u : Bool) → nat_eq f.current f.next ≡ u → Opened jobs N st k m (if u then record f
        { begun = f.begun ++ f.current ∷ []; next = first_busy (f.current + 1) (drop (f.current + 1) jobs) } else f)
    by true e = record {
      begun = rw at (ap (λ l. l ++ k ∷ []) t.begun
          ∙ listed_more (length jobs) k (λ j. is_under_way (st j)) (λ j. is_under_way (st j) || nat_eq k j) lt
          (λ j less. sym (same_or j (grind (arith, nat_tests)))) (λ j le less. under_way_at t j (omega (arith, le, is)))
          (ap (λ u. is_under_way (st k) || u) (nat_eq_equiv.refl k) ∙ or_true (is_under_way (st k)))
          (λ j more less. same_or j (grind (arith, nat_tests)) ∙ under_way_at t j (omega (arith, more, is))));
      unended = t.unended;
      window = t.window;
      next_in = (let most = busy.1 in omega (arith, most, len, lt, at));
      before = λ j less. fresh_before j (nat_lt j k) (nat_eq k j) refl refl less;
      after = λ j le. put_other st k m j (let least = busy.0 in grind (arith, nat_tests))
          ∙ t.after j (let least = busy.0 in omega (arith, least, le, is, at));
      at_next = λ less. ap is_fresh (put_other st k m next (let least = busy.0 in grind (arith, nat_tests))
          ∙ t.after next (let least = busy.0 in omega (arith, least, is, at))) ∙ fresh_is (get_or jobs next no_job)
          ∙ ap not (busy.3 (omega (arith, less, len, at, lt)));
      current = at;
      turn = turn;
    }
      where
        is : k ≡ f.next
        is = sym at ∙ same f.current f.next e

        next : ℕ
        next = first_busy (f.current + 1) (drop (f.current + 1) jobs)

        len : length (drop (f.current + 1) jobs) ≡ length jobs - (f.current + 1)
        len = length-drop (f.current + 1) jobs

        busy : (f.current + 1 ≤ next) × (next ≤ f.current + 1 + length (drop (f.current + 1) jobs))
            × ((j : ℕ) → f.current + 1 ≤ j → j < next → none (get_or jobs j no_job).groups ≡ true)
            × (next < f.current + 1 + length (drop (f.current + 1) jobs) → none (get_or jobs next no_job).groups ≡ false)
        busy = first_is (f.current + 1) (drop (f.current + 1) jobs) (λ j. get_or jobs j no_job) (λ i less. get_drop (f.current + 1) i jobs)

        fresh_before : (j : ℕ) (u v : Bool) → nat_lt j k ≡ u → nat_eq k j ≡ v → j < next → is_fresh (put st k m j) ≡ false
        fresh_before j true v low same_k less = ap is_fresh (put_other st k m j (let lower = is_less j k low in grind (arith, nat_tests)))
            ∙ t.before j (let lower = is_less j k low in omega (arith, lower, is))
        fresh_before j false true low same_k less = subst (λ i. is_fresh (put st k m i) ≡ false) (same k j same_k)
            (ap is_fresh (put_here st k m) ∙ begun_m)
        fresh_before j false false low same_k less =
            let above : k < j = grind (arith, nat_tests) in
            ap is_fresh (put_other st k m j same_k ∙ t.after j (omega (arith, above, is))) ∙ fresh_is (get_or jobs j no_job)
            ∙ ap not (busy.2 j (omega (arith, above, at)) less)
    by false e = record {
      begun = t.begun ∙ listed_same (length jobs) (λ j. is_under_way (st j)) (λ j. is_under_way (st j) || nat_eq k j)
          (λ j less. alike j (nat_eq k j) refl);
      unended = t.unended;
      window = t.window;
      next_in = t.next_in;
      before = λ j less. fresh_before j (nat_eq k j) refl less;
      after = λ j le. put_other st k m j (let low = below in grind (arith, nat_tests)) ∙ t.after j le;
      at_next = λ less. ap is_fresh (put_other st k m f.next (let low = below in grind (arith, nat_tests))) ∙ t.at_next less;
      current = at;
      turn = turn;
    }
      where
        below : k < f.next
        below = less_by (nat_lt k f.next) refl
          where
            less_by : (u : Bool) → nat_lt k f.next ≡ u → k < f.next
            less_by true is = is_less k f.next is
            less_by false is =
                let le : f.next ≤ k = is_not_less k f.next is in
                let apart_k : f.next < k = grind (arith, nat_tests) in
                let mine : is_fresh (st k) ≡ true = ap is_fresh (t.after k le)
                ∙ begin_fresh (get_or jobs k no_job) (ap is_left (sym (t.after k le)) ∙ left) in
                clash (t.at_next (omega (arith, apart_k, lt))) (may.in_order mine f.next apart_k)

        alike : (j : ℕ) (u : Bool) → nat_eq k j ≡ u → is_under_way (st j) ≡ (is_under_way (st j) || u)
        alike j true is = subst (λ i. is_under_way (st i) ≡ (is_under_way (st i) || true)) (same k j is)
            (rw (left_begun (st k) left (t.before k below)) refl)
        alike j false is = sym (or_false (is_under_way (st j)))

        fresh_before : (j : ℕ) (u : Bool) → nat_eq k j ≡ u → j < f.next → is_fresh (put st k m j) ≡ false
        fresh_before j true is less = subst (λ i. is_fresh (put st k m i) ≡ false) (same k j is) (ap is_fresh (put_here st k m) ∙ begun_m)
        fresh_before j false is less = ap is_fresh (put_other st k m j is) ∙ t.before j less

off : (s : Left) → is_left s ≡ false → is_under_way s ≡ false
off Over e = refl
off s e = absurd cc

turn_about : (k j : ℕ) → nat_eq k j ≡ false → nat_eq j k ≡ false
turn_about k j e = grind (arith, nat_tests)

-- after the last block of a source it is out of the list
pub counted : {jobs : List Job} {N : ℕ} {st : Stages} {f : Fleet} {k : ℕ} {m : Left} → Tallied jobs N st f → MayCome (length jobs) N st k
    → is_left (st k) ≡ true → is_fresh m ≡ false → f.current ≡ k → f.turns k ≡ Out m → Tallied jobs N (put st k m) (closed (opened jobs f))
counted {jobs = jobs} {N = N} {st = st} {f = f} {k = k} {m = m} t may left begun_m at turn =
    by (opened jobs f) (open_is t may left begun_m at turn)
  where
    here_or_there : (P : ℕ → Type 0) → P k → ((j : ℕ) → nat_eq k j ≡ false → P j) → (j : ℕ) → P j
    here_or_there P here there j = which (nat_eq k j) refl
      where
        which : (u : Bool) → nat_eq k j ≡ u → P j
        which true is = subst P (same k j is) here
        which false is = there j is

    by : (g : Fleet) → Opened jobs N st k m g → Tallied jobs N (put st k m) (closed g)
    by g o = close (is_left m) refl
      where
        goal : Bool → Type 0
        goal u = Tallied jobs N (put st k m) (if u then g else ended g)

        close : (u : Bool) → is_left m ≡ u → Tallied jobs N (put st k m) (closed g)
        close u e = subst goal (sym (ap more_left (ap g.turns o.current ∙ o.turn) ∙ e)) (shut u e)
          where
            shut : (u : Bool) → is_left m ≡ u → goal u
            shut true e = record {
              begun = o.begun ∙ listed_same (length jobs) _ _
                  (λ j less. here_or_there (λ j. (is_under_way (st j) || nat_eq k j) ≡ is_under_way (put st k m j))
                  (rw (nat_eq_equiv.refl k, left_begun m e begun_m) (or_true (is_under_way (st k))))
                  (λ j is. rw is (or_false (is_under_way (st j)))) j);
              unended = o.unended ∙ count_same (length jobs) _ _ (λ j less. here_or_there (λ j. is_left (st j) ≡ is_left (put st k m j))
                  (rw (nat_eq_equiv.refl k) (left ∙ sym e)) (λ j is. rw is refl) j);
              window = o.window;
              next_in = o.next_in;
              before = o.before;
              after = o.after;
              at_next = o.at_next;
            }
            shut false e = record {
              begun = ap (filter (λ j. not (nat_eq j g.current))) o.begun
                  ∙ listed_filter (length jobs) (λ j. is_under_way (st j) || nat_eq k j) (λ j. not (nat_eq j g.current))
                  ∙ listed_same (length jobs) _ _
                  (λ j less. here_or_there (λ j. ((is_under_way (st j) || nat_eq k j) && not (nat_eq j g.current))
                  ≡ is_under_way (put st k m j))
                  (rw (o.current, nat_eq_equiv.refl k) (and_false (is_under_way (st k) || true) ∙ sym (off m e)))
                  (λ j is. rw (o.current, is, turn_about k j is) (and_true (is_under_way (st j) || false) ∙ or_false (is_under_way (st j))))
                  j);
              unended = (let fewer : count (length jobs) (λ j. is_left (st j)) ≡ count (length jobs) (λ j. is_left (put st k m j)) + 1 =
                  count_with (length jobs) k (λ j. is_left (put st k m j)) (λ j. is_left (st j)) may.is_source
                  (ap is_left (put_here st k m) ∙ e) left (λ j is. sym (ap is_left (put_other st k m j (turn_about j k is)))) in
                  let all = o.unended in omega (arith, fewer, all));
              window = o.window;
              next_in = o.next_in;
              before = o.before;
              after = o.after;
              at_next = o.at_next;
            }
