use Rattle.drv_core.proofs.Counting.{is_less, is_not_less, same}
use Rattle.drv_core.proofs.Serial.{begin_beyond}
use Rattle.drv_core.proofs.Tests.{some_is}
use Rattle.drv_core.specs.Code.Fleet.{Fleet, able, going, may_begin, settled, turn_put, turned}
use Rattle.drv_core.specs.Code.FleetView.{AllInRoom, turn_in}
use Rattle.drv_core.specs.Code.Machine.{Out, took}
use Rattle.drv_core.specs.Code.SourceView.{InRoom, turn_of}
use Rattle.drv_core.specs.Code.Turns.{is_inside}
use Rattle.drv_core.specs.Filled.{Filled}
use Rattle.drv_core.specs.Story.{begin}
use Rattle.drv_core.specs.declared.source.SourceState.{SourceState}
use Rattle.drv_words.specs.Places.{no_job}
use Rattle.drv_words.specs.declared.answers.Answer.{Answer}
use Rattle.drv_words.specs.declared.plan.Job.{Job}
use Rattle.std.proofs.Common.{◌≡◌, ◌<◌, ◌≤◌, ◌+◌, ◌++◌, ◌∙◌, Bool, false, true, List, [], ◌∷◌, None, Some, ap, arith, get_or, if◌then◌else◌}
use Rattle.std.proofs.Common.{length, nat_eq, nat_lt, refl, subst}
use Rattle.std.proofs.Common.{suc, sym, zero, ℕ}
use Rattle.std.proofs.Math.Path.{fun_ext}
use Rattle.std.proofs.lemmas.Bool.Decides.{nat_tests}
use Rattle.std.proofs.lemmas.List.{get_or_past, length-append}
use Rattle.std.proofs.lemmas.Option.{slice_get_past}
use Rattle.std.specs.Prelude.{slice_get, slice_set}

-- The code's list of sources, seen as their turns.

-- a list with a new item
get_set : {X : Type 0} (xs : List X) (k : ℕ) (x : X) → k < length xs → (j : ℕ)
    → slice_get (slice_set xs k x) j ≡ (if nat_eq k j then Some x else slice_get xs j)
get_set [] k x lt j = absurd (omega (arith, lt))
get_set (y ∷ xs) zero x lt zero = refl
get_set (y ∷ xs) zero x lt (suc j) = let e : nat_eq 0 (suc j) ≡ false = grind (arith, nat_tests) in rw e refl
get_set (y ∷ xs) (suc k) x lt zero = let e : nat_eq (suc k) 0 ≡ false = grind (arith, nat_tests) in rw e refl
get_set (y ∷ xs) (suc k) x lt (suc j) = get_set xs k x (omega (arith, lt)) j
    ∙ ap (λ (t : Bool). if t then Some x else slice_get xs j) (by (nat_eq k j) refl)
  where
    by : (t : Bool) → nat_eq k j ≡ t → nat_eq k j ≡ nat_eq (suc k) (suc j)
    by true e = let f : nat_eq (suc k) (suc j) ≡ true = grind (arith, nat_tests) in e ∙ sym f
    by false e = let f : nat_eq (suc k) (suc j) ≡ false = grind (arith, nat_tests) in e ∙ sym f

-- one source takes an answer
pub worked_turns : (jobs : List Job) (xs : List SourceState) (k : ℕ) (s t : SourceState) (x : Answer) → k < length xs
    → slice_get xs k ≡ Some s → turn_of (get_or jobs k no_job) t ≡ took (get_or jobs k no_job) (turn_of (get_or jobs k no_job) s) x
    → (λ j. turn_in (get_or jobs j no_job) (slice_get (slice_set xs k t) j))
    ≡ turn_put (λ j. turn_in (get_or jobs j no_job) (slice_get xs j)) k
    (took (get_or jobs k no_job) (turn_in (get_or jobs k no_job) (slice_get xs k)) x)
worked_turns jobs xs k s t x lt is turn = fun_ext (λ j. ap (turn_in (get_or jobs j no_job)) (get_set xs k t lt j) ∙ by j (nat_eq k j) refl)
  where
    by : (j : ℕ) (u : Bool) → nat_eq k j ≡ u → turn_in (get_or jobs j no_job) (if u then Some t else slice_get xs j)
        ≡ (if u then took (get_or jobs k no_job) (turn_in (get_or jobs k no_job) (slice_get xs k)) x
        else turn_in (get_or jobs j no_job) (slice_get xs j))
    by j true e =
        let same : k ≡ j = grind (arith, nat_tests) in
        subst (λ i. turn_of (get_or jobs i no_job) t ≡ took (get_or jobs k no_job) (turn_in (get_or jobs k no_job) (slice_get xs k)) x) same
        (turn ∙ ap (λ o. took (get_or jobs k no_job) (turn_in (get_or jobs k no_job) o) x) (sym is))
    by j false e = refl

-- each source still has room
pub rooms_kept : (jobs : List Job) (xs : List SourceState) (k : ℕ) (t : SourceState) → k < length xs → AllInRoom jobs xs
    → InRoom (get_or jobs k no_job) t → AllInRoom jobs (slice_set xs k t)
rooms_kept jobs xs k t lt rooms room j s is = by (nat_eq k j) refl (sym (get_set xs k t lt j) ∙ is)
  where
    by : (u : Bool) → nat_eq k j ≡ u → (if u then Some t else slice_get xs j) ≡ Some s → InRoom (get_or jobs j no_job) s
    by true e at =
        let same : k ≡ j = grind (arith, nat_tests) in
        let here : t ≡ s = cc in
        subst (λ i. InRoom (get_or jobs i no_job) s) same (subst (λ r. InRoom (get_or jobs k no_job) r) here room)
    by false e at = rooms j s at

-- inside a block the source in progress stays
pub stays : (jobs : List Job) (f g : Fleet) → g ≡ f → true ≡ is_inside (g.turns g.current) → g ≡ settled jobs f
stays jobs f g e i = by (is_inside (f.turns f.current)) (i ∙ ap (λ x. is_inside (x.turns x.current)) e)
  where
    by : (t : Bool) → true ≡ t → g ≡ (if t then f else turned jobs f)
    by true u = e
    by false u = absurd cc

-- after a block another source is chosen
pub turns_on : (jobs : List Job) (f g h : Fleet) → g ≡ f → false ≡ is_inside (g.turns g.current) → h ≡ turned jobs g → h ≡ settled jobs f
turns_on jobs f g h e i t = by (is_inside (f.turns f.current)) (i ∙ ap (λ x. is_inside (x.turns x.current)) e)
  where
    by : (u : Bool) → false ≡ u → h ≡ (if u then f else turned jobs f)
    by true u = absurd cc
    by false u = t ∙ ap (λ x. turned jobs x) e

-- the first n sources are made, for as many jobs, of which no group is empty
pub record Made (jobs : List Job) (made : List SourceState) (n : ℕ) : Type 0 where
  pub many : length made ≡ n
  pub most : n ≤ length jobs
  pub fresh : (k : ℕ) → k < n → turn_in (get_or jobs k no_job) (slice_get made k) ≡ Out (begin (get_or jobs k no_job))
  pub room : AllInRoom jobs made
  pub filled : (k : ℕ) → k < n → Filled (get_or jobs k no_job)

-- the items of a list with one more
get_before : {X : Type 0} (xs : List X) (y : X) (k : ℕ) → k < length xs → slice_get (xs ++ y ∷ []) k ≡ slice_get xs k
get_before [] y k lt = absurd (omega (arith, lt))
get_before (x ∷ xs) y zero lt = refl
get_before (x ∷ xs) y (suc k) lt = get_before xs y k (omega (arith, lt))

get_last : {X : Type 0} (xs : List X) (y : X) → slice_get (xs ++ y ∷ []) (length xs) ≡ Some y
get_last [] y = refl
get_last (x ∷ xs) y = get_last xs y

pub made_more : (jobs : List Job) (made new : List SourceState) (n : ℕ) (last : SourceState) (job : Job) → new ≡ made ++ last ∷ []
    → job ≡ get_or jobs n no_job → n < length jobs → turn_of job last ≡ Out (begin job) → InRoom job last → Filled job → Made jobs made n
    → Made jobs new (n + 1)
made_more jobs made new n last job grown is lt turn room filled m = subst (λ l. Made jobs l (n + 1)) (sym grown) (record {
  many = (let len = m.many in let all : length (made ++ last ∷ []) ≡ length made + 1 =
      length-append made (last ∷ []) in omega (arith, len, all));
  most = omega (arith, lt);
  fresh = λ k less. by (λ k. turn_in (get_or jobs k no_job) (slice_get (made ++ last ∷ []) k) ≡ Out (begin (get_or jobs k no_job)))
      (subst (λ j. turn_in j (slice_get (made ++ last ∷ []) n) ≡ Out (begin j)) is (ap (turn_in job) at ∙ turn))
      (λ k less. ap (turn_in (get_or jobs k no_job)) (get_before made last k (let len = m.many in omega (arith, less, len)))
      ∙ m.fresh k less) k less;
  room = λ k s found. kept k s (nat_lt k n) refl found;
  filled = λ k less. by (λ k. Filled (get_or jobs k no_job)) (subst Filled is filled) m.filled k less;
})
  where
    at : slice_get (made ++ last ∷ []) n ≡ Some last
    at = ap (λ i. slice_get (made ++ last ∷ []) i) (sym m.many) ∙ get_last made last

    by : (P : ℕ → Type 0) → P n → ((k : ℕ) → k < n → P k) → (k : ℕ) → k < n + 1 → P k
    by P here before k less = which (nat_eq n k) refl
      where
        which : (t : Bool) → nat_eq n k ≡ t → P k
        which true e = subst P (same n k e) here
        which false e = before k (grind (arith, nat_tests))

    kept : (k : ℕ) (s : SourceState) (t : Bool) → nat_lt k n ≡ t → slice_get (made ++ last ∷ []) k ≡ Some s
        → InRoom (get_or jobs k no_job) s
    kept k s true e found =
        let less : k < length made = (let a = is_less k n e in let len = m.many in omega (arith, a, len)) in
        m.room k s (sym (get_before made last k less) ∙ found)
    kept k s false e found = here (nat_eq n k) refl
      where
        here : (t : Bool) → nat_eq n k ≡ t → InRoom (get_or jobs k no_job) s
        here true is_n =
            let found_n : slice_get (made ++ last ∷ []) n ≡ Some s = ap (λ i. slice_get (made ++ last ∷ []) i) (same n k is_n) ∙ found in
            let one : last ≡ s = some_is (sym at ∙ found_n) in
            subst (λ i. InRoom (get_or jobs i no_job) s) (same n k is_n)
            (subst (λ x. InRoom (get_or jobs n no_job) x) one (subst (λ j. InRoom j last) is room))
        here false other =
            let past : length (made ++ last ∷ []) ≤ k = (let len = m.many in let ge = is_not_less k n e in
            let all : length (made ++ last ∷ []) ≡ length made + 1 = length-append made (last ∷ []) in grind (arith, nat_tests)) in
            absurd (let no : None ≡ Some s = sym (slice_get_past (made ++ last ∷ []) k past) ∙ found in cc)

-- all are made
pub all_fresh : (jobs : List Job) (made : List SourceState) (n : ℕ) → length jobs ≤ n → Made jobs made n → (k : ℕ)
    → turn_in (get_or jobs k no_job) (slice_get made k) ≡ Out (begin (get_or jobs k no_job))
all_fresh jobs made n past m k = by (nat_lt k n) refl
  where
    by : (t : Bool) → nat_lt k n ≡ t → turn_in (get_or jobs k no_job) (slice_get made k) ≡ Out (begin (get_or jobs k no_job))
    by true e = m.fresh k (is_less k n e)
    by false e =
        let ge : n ≤ k = is_not_less k n e in
        ap (turn_in (get_or jobs k no_job)) (slice_get_past made k (let len = m.many in omega (arith, ge, len)))
        ∙ ap Out (sym (begin_beyond jobs k (omega (arith, ge, past))))

pub all_filled : (jobs : List Job) (made : List SourceState) (n : ℕ) → length jobs ≤ n → Made jobs made n
    → (k : ℕ) → Filled (get_or jobs k no_job)
all_filled jobs made n past m k = by (nat_lt k n) refl
  where
    by : (t : Bool) → nat_lt k n ≡ t → Filled (get_or jobs k no_job)
    by true e = m.filled k (is_less k n e)
    by false e = λ g lt.
        let ge : n ≤ k = is_not_less k n e in
        absurd (let none : get_or jobs k no_job ≡ no_job = get_or_past jobs k no_job (omega (arith, ge, past)) in
        let zero_groups : length (get_or jobs k no_job).groups ≡ 0 = ap (λ (j : Job). length j.groups) none in omega
        (arith, lt, zero_groups))

-- how many may go on
pub able_length : (jobs : List Job) (f : Fleet) → length (able jobs f)
    ≡ (if may_begin jobs f then length (going f) + 1 else length (going f))
able_length jobs f = length-append (going f) (if may_begin jobs f then f.next ∷ [] else []) ∙ by (may_begin jobs f)
  where
    by : (t : Bool) → length (going f) + length (if t then f.next ∷ [] else []) ≡ (if t then length (going f) + 1 else length (going f))
    by true = refl
    by false = omega arith
