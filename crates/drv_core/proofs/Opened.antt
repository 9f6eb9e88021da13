use Rattle.drv_core.proofs.Counting.{same}
use Rattle.drv_core.proofs.Tests.{and_false, or_true}
use Rattle.drv_core.proofs.Waiting.{all_waited}
use Rattle.drv_core.specs.Waited.{Act, Ascends, Awaits, Begins, Child, Waited, WaitsForEach, acts_in, acts_of, awaits, begins}
use Rattle.drv_core.specs.Windowed.{Windowed}
use Rattle.drv_words.specs.Stepping.{is_child, is_open, is_start_at, is_wait_for}
use Rattle.drv_words.specs.declared.answers.Answer.{Answer}
use Rattle.drv_words.specs.declared.answers.Answer.TheVariants as answer
use Rattle.drv_words.specs.declared.answers.StartAnswer.TheVariants as start
use Rattle.drv_words.specs.declared.plan.Plan.{Plan}
use Rattle.drv_words.specs.declared.steps.Place.TheVariants as place
use Rattle.drv_words.specs.declared.steps.RunEvent.{RunEvent}
use Rattle.drv_words.specs.declared.steps.Step.{Step}
use Rattle.drv_words.specs.declared.steps.Step.TheVariants as step
use Rattle.std.proofs.Common.{◌≡◌, ◌<◌, ◌≤◌, ◌⊎◌, ◌+◌, ◌∙◌, ◌&&◌, ◌||◌, Bool, false, true, List, [], ◌∷◌, ◌++◌, ap, arith, if◌then◌else◌}
use Rattle.std.proofs.Common.{inl, inr, nat_eq, not, refl, subst, sym, ℕ}
use Rattle.std.proofs.lemmas.Bool.Decides.{nat_tests}
use Rattle.std.proofs.lemmas.Cmp.{nat_eq_equiv}
use Rattle.std.proofs.lemmas.Grind.{flat_map-append}
use Rattle.std.specs.List.{list_any}
use Rattle.std.specs.Prelude.{⊤}

-- For possible_law: the child of a wait was started at its place, and there was no wait for it yet. This follows from what waiting_law says
-- of the acts of a job's children.

-- whether an act begins this child, or awaits it
abbrev is_it : Child → Child → Bool
is_it c d = nat_eq c.group d.group && (nat_eq c.member d.member && nat_eq c.id d.id)

abbrev begins_it : Child → Act → Bool
begins_it c (Begins d) = is_it c d
begins_it c (Awaits d) = false

abbrev awaits_it : Child → Act → Bool
awaits_it c (Begins d) = false
awaits_it c (Awaits d) = is_it c d

-- the first place is before the second
abbrev Before : Child → Child → Type 0
Before c d = (c.group < d.group) ⊎ ((c.group ≡ d.group) × (c.member < d.member))

-- a child is before this place
abbrev Under : Child → ℕ → ℕ → Type 0
Under c g i = (c.group < g) ⊎ ((c.group ≡ g) × (c.member < i))

abbrev AllUnder : List Child → ℕ → ℕ → Type 0
AllUnder [] g i = ⊤
AllUnder (c ∷ q) g i = Under c g i × AllUnder q g i

abbrev AllAfter : Child → List Child → Type 0
AllAfter c [] = ⊤
AllAfter c (d ∷ q) = Before c d × AllAfter c q

abbrev Sorted : List Child → Type 0
Sorted [] = ⊤
Sorted (c ∷ q) = AllAfter c q × Sorted q

abbrev Has : Child → List Child → Type 0
Has c [] = ⊥
Has c (d ∷ q) = (c ≡ d) ⊎ Has c q

-- one more at the end
has_split : (c d : Child) (q : List Child) → Has c (q ++ d ∷ []) → Has c q ⊎ (c ≡ d)
has_split c d [] (inl e) = inr e
has_split c d [] (inr h) = absurd h
has_split c d (x ∷ q) (inl e) = inl (inl e)
has_split c d (x ∷ q) (inr h) = by (has_split c d q h)
  where
    by : Has c q ⊎ (c ≡ d) → ((c ≡ x) ⊎ Has c q) ⊎ (c ≡ d)
    by (inl y) = inl (inr y)
    by (inr y) = inr y

after_more : (c d : Child) (q : List Child) → AllAfter c q → Before c d → AllAfter c (q ++ d ∷ [])
after_more c d [] a b = (b, tt)
after_more c d (x ∷ q) a b = (a.0, after_more c d q a.1 b)

under_before : (c d : Child) (g i : ℕ) → Under c g i → (g < d.group) ⊎ ((g ≡ d.group) × (i ≤ d.member)) → Before c d
under_before c d g i (inl x) (inl y) = inl (omega (arith, x, y))
under_before c d g i (inl x) (inr y) = inl (let e = y.0 in omega (arith, x, e))
under_before c d g i (inr x) (inl y) = inl (let e = x.0 in omega (arith, e, y))
under_before c d g i (inr x) (inr y) = let e = x.0 in let f = y.0 in let p = x.1 in let q =
    y.1 in inr (omega (arith, e, f), omega (arith, p, q))

sorted_more : (d : Child) (q : List Child) (g i : ℕ) → Sorted q → AllUnder q g i → (g < d.group) ⊎ ((g ≡ d.group) × (i ≤ d.member))
    → Sorted (q ++ d ∷ []) × AllUnder (q ++ d ∷ []) d.group (d.member + 1)
sorted_more d [] g i s u le = ((tt, tt), (inr (refl, omega arith), tt))
sorted_more d (x ∷ q) g i s u le =
    let rest = sorted_more d q g i s.1 u.1 le in
    ((after_more x d q s.0 (under_before x d g i u.0 le), rest.0), (up (under_before x d g i u.0 le), rest.1))
  where
    up : Before x d → Under x d.group (d.member + 1)
    up (inl a) = inl a
    up (inr a) = let lt = a.1 in inr (a.0, omega (arith, lt))

-- an earlier child is another
apart : (c d : Child) → Before d c → is_it c d ≡ false
apart c d (inl x) = let e : nat_eq c.group d.group ≡ false = grind (arith, nat_tests) in rw e refl
apart c d (inr x) = let lt = x.1 in let e : nat_eq c.member d.member ≡ false = grind (arith, nat_tests) in rw e
    (and_false (nat_eq c.group d.group))

after_it : (c d : Child) (q : List Child) → AllAfter d q → Has c q → Before d c
after_it c d [] a h = absurd h
after_it c d (x ∷ q) a (inl e) = subst (λ z. Before d z) (sym e) a.0
after_it c d (x ∷ q) a (inr h) = after_it c d q a.1 h

-- what begins later is not before this place
later : (c d : Child) (g i : ℕ) (xs ys : List Act) → Under d g i → Ascends g i (xs ++ ys) → list_any (begins_it c) xs ≡ true → Before d c
later c d g i [] ys u a e = absurd cc
later c d g i (Awaits x ∷ xs) ys u a e = later c d g i xs ys u a e
later c d g i (Begins x ∷ xs) ys u a e = by (is_it c x) refl e (λ v f. later c d x.group (x.member + 1) xs ys v a.1 f)
  where
    up : Before d x → Under d x.group (x.member + 1)
    up (inl p) = inl p
    up (inr p) = let lt = p.1 in inr (p.0, omega (arith, lt))

    it : is_it c x ≡ true → Before d x → Before d c
    it same_it b =
        let g1 : nat_eq c.group x.group ≡ true = first (nat_eq c.group x.group) (nat_eq c.member x.member && nat_eq c.id x.id) same_it in
        let m1 : nat_eq c.member x.member ≡ true = first (nat_eq c.member x.member) (nat_eq c.id x.id)
        (second (nat_eq c.group x.group) (nat_eq c.member x.member && nat_eq c.id x.id) same_it) in
        let gs : c.group ≡ x.group = same c.group x.group g1 in
        let ms : c.member ≡ x.member = same c.member x.member m1 in
        move b gs ms
      where
        first : (s t : Bool) → (s && t) ≡ true → s ≡ true
        first true t h = refl
        first false t h = absurd cc

        second : (s t : Bool) → (s && t) ≡ true → t ≡ true
        second true t h = h
        second false t h = absurd cc

        move : Before d x → c.group ≡ x.group → c.member ≡ x.member → Before d c
        move (inl p) gs ms = inl (omega (arith, p, gs))
        move (inr p) gs ms = let a0 = p.0 in let a1 = p.1 in inr (omega (arith, a0, gs), omega (arith, a1, ms))

    by : (t : Bool) → is_it c x ≡ t → (t || list_any (begins_it c) xs) ≡ true
        → (Under d x.group (x.member + 1) → list_any (begins_it c) xs ≡ true → Before d c) → Before d c
    by true h e ih = it h (under_before d x g i u a.0)
    by false h e ih = ih (up (under_before d x g i u a.0)) e

-- a wait is for a child that waits, or begins before it, and the first wait for it
pub record Ready (c : Child) (q : List Child) (xs : List Act) : Type 0 where
  pub begun : Has c q ⊎ (list_any (begins_it c) xs ≡ true)
  pub unwaited : list_any (awaits_it c) xs ≡ false

itself : (c : Child) → is_it c c ≡ true
itself c = rw (nat_eq_equiv.refl c.group, nat_eq_equiv.refl c.member, nat_eq_equiv.refl c.id) refl

ready : (c : Child) (q : List Child) (g i : ℕ) (xs ys : List Act) → Waited q (xs ++ Awaits c ∷ ys) → Sorted q → AllUnder q g i
    → Ascends g i (xs ++ Awaits c ∷ ys) → Ready c q xs
ready c q g i [] ys (awaits d w acts h) s u a = record { begun = inl (inl refl); unwaited = refl }
ready c q g i (Begins d ∷ xs) ys (begins x w acts h) s u a = by (ready c (q ++ d ∷ []) d.group (d.member + 1) xs ys h more.0 more.1 a.1)
  where
    more : Sorted (q ++ d ∷ []) × AllUnder (q ++ d ∷ []) d.group (d.member + 1)
    more = sorted_more d q g i s u a.0

    by : Ready c (q ++ d ∷ []) xs → Ready c q (Begins d ∷ xs)
    by r = record { begun = which r.begun; unwaited = r.unwaited }
      where
        old : Has c q ⊎ (c ≡ d) → Has c q ⊎ (list_any (begins_it c) (Begins d ∷ xs) ≡ true)
        old (inl x) = inl x
        old (inr x) = inr (ap (λ t. t || list_any (begins_it c) xs) (ap (is_it c) (sym x) ∙ itself c))

        which : Has c (q ++ d ∷ []) ⊎ (list_any (begins_it c) xs ≡ true) → Has c q ⊎ (list_any (begins_it c) (Begins d ∷ xs) ≡ true)
        which (inl x) = old (has_split c d q x)
        which (inr x) = inr (ap (λ t. is_it c d || t) x ∙ or_true (is_it c d))
ready c [] g i (Awaits d ∷ xs) ys h s u a = elim h [ ]
ready c (d ∷ q) g i (Awaits _ ∷ xs) ys (awaits _ w acts h) s u a = by (ready c q g i xs ys h s.1 u.1 a)
  where
    by : Ready c q xs → Ready c (d ∷ q) (Awaits d ∷ xs)
    by r = record { begun = which r.begun; unwaited = rw (other r.begun) r.unwaited }
      where
        which : Has c q ⊎ (list_any (begins_it c) xs ≡ true) → ((c ≡ d) ⊎ Has c q) ⊎ (list_any (begins_it c) (Awaits d ∷ xs) ≡ true)
        which (inl x) = inl (inr x)
        which (inr x) = inr x

        other : Has c q ⊎ (list_any (begins_it c) xs ≡ true) → is_it c d ≡ false
        other (inl x) = apart c d (after_it c d q s.0 x)
        other (inr x) = apart c d (later c d g i xs (Awaits c ∷ ys) u.0 a x)

-- the events have such acts

turn_eq : (a b : ℕ) → nat_eq a b ≡ nat_eq b a
turn_eq a b = by (nat_eq a b) refl
  where
    by : (t : Bool) → nat_eq a b ≡ t → nat_eq a b ≡ nat_eq b a
    by true e = let f : nat_eq b a ≡ true = grind (arith, nat_tests) in e ∙ sym f
    by false e = let f : nat_eq b a ≡ false = grind (arith, nat_tests) in e ∙ sym f

assoc : (a b d : Bool) → (a && (b && d)) ≡ ((a && b) && d)
assoc true b d = refl
assoc false b d = refl

begun_in : (k : ℕ) (c : Child) (E : List RunEvent) → list_any (begins_it c) (acts_in k E)
    ≡ list_any (λ e. is_start_at (place.Command k c.group c.member) e.step && is_child c.id e.answer) E
begun_in k c [] = refl
begun_in k c (e ∷ E) = by e.step e.answer (begun_in k c E)
  where
    by : (s : Step) (x : Answer) → list_any (begins_it c) (acts_in k E)
        ≡ list_any (λ e. is_start_at (place.Command k c.group c.member) e.step && is_child c.id e.answer) E
        → list_any (begins_it c) (acts_of k s x ++ acts_in k E) ≡ ((is_start_at (place.Command k c.group c.member) s && is_child c.id x)
        || list_any (λ e. is_start_at (place.Command k c.group c.member) e.step && is_child c.id e.answer) E)
    by (step.Start (place.Command j g i) from_pipe to_pipe) (answer.Start (start.Started id)) ih = rw (turn_eq k j) (here (nat_eq j k))
      where
        here : (t : Bool) → list_any (begins_it c)
            ((if t then Begins (record { group = g; member = i; id = id }) ∷ [] else []) ++ acts_in k E)
            ≡ (((t && (nat_eq c.group g && nat_eq c.member i)) && nat_eq c.id id)
            || list_any (λ e. is_start_at (place.Command k c.group c.member) e.step && is_child c.id e.answer) E)
        here true = ap (λ t. t || list_any (begins_it c) (acts_in k E)) (assoc (nat_eq c.group g) (nat_eq c.member i) (nat_eq c.id id))
            ∙ ap (λ t. ((nat_eq c.group g && nat_eq c.member i) && nat_eq c.id id) || t) ih
        here false = ih
    by (step.Start p from_pipe to_pipe) (answer.Start (start.Started id)) ih = ih
    by (step.Start (place.Command j g i) from_pipe to_pipe) x ih = rw (and_false (nat_eq k j && (nat_eq c.group g && nat_eq c.member i))) ih
    by (step.Start p from_pipe to_pipe) x ih = ih
    by (step.Wait (place.Command j g i) id) x ih = here (nat_eq j k)
      where
        here : (t : Bool) → list_any (begins_it c)
            ((if t then Awaits (record { group = g; member = i; id = id }) ∷ [] else []) ++ acts_in k E)
            ≡ list_any (λ e. is_start_at (place.Command k c.group c.member) e.step && is_child c.id e.answer) E
        here true = ih
        here false = ih
    by s x ih = ih

awaited_in : (k : ℕ) (c : Child) (E : List RunEvent) → list_any (awaits_it c) (acts_in k E)
    ≡ list_any (λ e. is_wait_for (place.Command k c.group c.member) c.id e.step) E
awaited_in k c [] = refl
awaited_in k c (e ∷ E) = by e.step e.answer (awaited_in k c E)
  where
    by : (s : Step) (x : Answer) → list_any (awaits_it c) (acts_in k E)
        ≡ list_any (λ e. is_wait_for (place.Command k c.group c.member) c.id e.step) E
        → list_any (awaits_it c) (acts_of k s x ++ acts_in k E) ≡ (is_wait_for (place.Command k c.group c.member) c.id s
        || list_any (λ e. is_wait_for (place.Command k c.group c.member) c.id e.step) E)
    by (step.Wait (place.Command j g i) id) x ih = rw (turn_eq k j) (here (nat_eq j k))
      where
        here : (t : Bool) → list_any (awaits_it c)
            ((if t then Awaits (record { group = g; member = i; id = id }) ∷ [] else []) ++ acts_in k E)
            ≡ (((t && (nat_eq c.group g && nat_eq c.member i)) && nat_eq c.id id)
            || list_any (λ e. is_wait_for (place.Command k c.group c.member) c.id e.step) E)
        here true = ap (λ t. t || list_any (awaits_it c) (acts_in k E)) (assoc (nat_eq c.group g) (nat_eq c.member i) (nat_eq c.id id))
            ∙ ap (λ t. ((nat_eq c.group g && nat_eq c.member i) && nat_eq c.id id) || t) ih
        here false = ih
    by (step.Start (place.Command j g i) from_pipe to_pipe) (answer.Start (start.Started id)) ih = here (nat_eq j k)
      where
        here : (t : Bool) → list_any (awaits_it c)
            ((if t then Begins (record { group = g; member = i; id = id }) ∷ [] else []) ++ acts_in k E)
            ≡ list_any (λ e. is_wait_for (place.Command k c.group c.member) c.id e.step) E
        here true = ih
        here false = ih
    by (step.Start p from_pipe to_pipe) (answer.Start (start.Started id)) ih = ih
    by s x ih = ih

pub all_open : (plan : Plan) (N : ℕ) (events : List RunEvent) → Windowed plan N events
    → (k g i id : ℕ) (before : List RunEvent) (x : Answer)
    (after : List RunEvent) → events ≡ before ++ record { step = step.Wait (place.Command k g i) id; answer = x } ∷ after
    → is_open (place.Command k g i) id before ≡ true
all_open plan N events w k g i id before x after is = by (ready child [] 0 0 (acts_in k before) (acts_in k after)
    (subst (λ l. Waited [] l) acts waits.each) tt tt (subst (λ l. Ascends 0 0 l) acts waits.once))
  where
    child : Child
    child = record { group = g; member = i; id = id }

    waits : WaitsForEach k events
    waits = all_waited plan N events w k

    acts : acts_in k events ≡ acts_in k before ++ Awaits child ∷ acts_in k after
    acts = ap (acts_in k) is ∙ flat_map-append (λ e. acts_of k e.step e.answer) before
        (record { step = step.Wait (place.Command k g i) id; answer = x } ∷ after)
        ∙ ap (λ (t : Bool). acts_in k before ++ ((if t then Awaits child ∷ [] else []) ++ acts_in k after)) (nat_eq_equiv.refl k)

    yes : (a b : Bool) → a ≡ true → b ≡ false → (a && not b) ≡ true
    yes a b p q = rw (p, q) refl

    by : Ready child [] (acts_in k before) → is_open (place.Command k g i) id before ≡ true
    by r = yes _ _ (sym (begun_in k child before) ∙ some r.begun) (sym (awaited_in k child before) ∙ r.unwaited)
      where
        some : Has child [] ⊎ (list_any (begins_it child) (acts_in k before) ≡ true) → list_any (begins_it child) (acts_in k before) ≡ true
        some (inl no_child) = absurd no_child
        some (inr e) = e
