use Rattle.drv_core.proofs.Counting.{is_less, is_not_less, same}
use Rattle.drv_core.proofs.Files.{Each, all_each}
use Rattle.drv_core.proofs.Finish.{clash}
use Rattle.drv_core.proofs.Tests.{or_false, some_is}
use Rattle.drv_core.specs.Code.LeftoverView.{IsFresh, leftover_list, leftover_of}
use Rattle.drv_core.specs.Code.Leftovers.{called_by, calling, claim_by, claims_in, counted, gathered, is_counted, is_left, noted, noting}
use Rattle.drv_core.specs.Code.Leftovers.{swept}
use Rattle.drv_core.specs.Code.Numbering.{Leftover, first_with, numbered_files}
use Rattle.drv_core.specs.Events.{job_of}
use Rattle.drv_core.specs.declared.leftovers.Leftovers.{Leftovers}
use Rattle.drv_core.specs.Windowed.{File, all_files, each_once, is_call_of}
use Rattle.drv_words.specs.declared.answers.Answer.{Answer}
use Rattle.drv_words.specs.declared.answers.Answer.TheVariants as answer
use Rattle.drv_words.specs.declared.answers.ClaimAnswer.TheVariants as claim
use Rattle.drv_words.specs.declared.plan.Plan.{Plan}
use Rattle.drv_words.specs.declared.steps.Place.{Place}
use Rattle.drv_words.specs.declared.steps.Place.TheVariants as place
use Rattle.drv_words.specs.declared.steps.RunEvent.{RunEvent}
use Rattle.drv_words.specs.declared.steps.Step.{Step}
use Rattle.drv_words.specs.declared.steps.Step.TheVariants as step
use Rattle.std.proofs.Common.{◌≡◌, ◌<◌, ◌≤◌, ◌+◌, ◌∙◌, ◌&&◌, ◌||◌, Bool, false, true, List, [], ◌∷◌, ◌++◌, Some, ap, append_assoc, arith}
use Rattle.std.proofs.Common.{drop, get_or, if◌then◌else◌, length, map, nat_eq, nat_lt, not, refl, replicate, subst, suc, sym, unwrap_or, ℕ}
use Rattle.std.proofs.lemmas.Cmp.{nat_eq_equiv, nat_list_eq_equiv}
use Rattle.std.proofs.lemmas.List.{drop_more, get_or-replicate, get_or_past, get_or-set_other, get_or-set_same, length-append, length-map}
use Rattle.std.proofs.lemmas.List.{length-replicate, length-set}
use Rattle.std.specs.Cmp.Lexicographic.{pointwise, same_text}
use Rattle.std.specs.List.{filter, list_any}
use Rattle.std.specs.Prelude.{⊤, slice_set}

-- The files that the code removes at the end are those that are left after the events, each path once.

-- each path once, by a flag for each number of a path

-- what holds of each file, and follows from two such facts, holds of each
each_two : (P Q R : File → Type 0) → ((f : File) → P f → Q f → R f) → (fs : List File) → Each P fs → Each Q fs → Each R fs
each_two P Q R h [] p q = tt
each_two P Q R h (f ∷ fs) p q = (h f p.0 q.0, each_two P Q R h fs p.1 q.1)

-- two paths have the same number exactly if they are equal
abbrev pub Numbered : (List ℕ → ℕ) → List File → Type 0
Numbered num [] = ⊤
Numbered num (f ∷ fs) = Each (λ g. pointwise nat_eq g.path f.path ≡ nat_eq (num f.path) (num g.path)) fs × Numbered num fs

-- a file with the number of its path
abbrev pub numbered : (List ℕ → ℕ) → File → Leftover
numbered num f = record { place = f.place; first = num f.path }

-- the flag of a file's path says whether the path was seen
abbrev pub Flagged : (List ℕ → ℕ) → List Bool → List (List ℕ) → File → Type 0
Flagged num gone seen f = (num f.path < length gone) × (get_or gone (num f.path) false ≡ list_any (pointwise nat_eq f.path) seen)

-- after one more path was removed, the flags still say which paths were seen
flag_more : (num : List ℕ → ℕ) (gone : List Bool) (seen : List (List ℕ)) (f g : File) → num f.path < length gone
    → pointwise nat_eq g.path f.path ≡ nat_eq (num f.path) (num g.path) → Flagged num gone seen g
    → Flagged num (slice_set gone (num f.path) true) (f.path ∷ seen) g
flag_more num gone seen f g room alike old = (
  subst (λ n. num g.path < n) (sym (length-set gone (num f.path) true)) old.0,
  by
      (nat_eq (num f.path) (num g.path)) refl,
)
  where
    -- Plan: by whether the file has the path that was removed.
    by : (t : Bool) → nat_eq (num f.path) (num g.path) ≡ t → get_or (slice_set gone (num f.path) true) (num g.path) false
        ≡ (pointwise nat_eq g.path f.path || list_any (pointwise nat_eq g.path) seen)
    by true e = subst (λ n. get_or (slice_set gone (num f.path) true) n false ≡ true) (same (num f.path) (num g.path) e)
        (get_or-set_same gone (num f.path) true false room)
        ∙ ap (λ (t : Bool). t || list_any (pointwise nat_eq g.path) seen) (sym (alike ∙ e))
    by false e = get_or-set_other gone (num f.path) (num g.path) true false (λ is. clash
        (ap (λ n. nat_eq (num f.path) n) is ∙ nat_eq_equiv.refl (num f.path)) e) ∙ old.1
        ∙ ap (λ (t : Bool). t || list_any (pointwise nat_eq g.path) seen) (sym (alike ∙ e))

-- each path once, by the flags as by the list of paths
pub once_is : (claimed : List ℕ) (called : List Bool) (num : List ℕ → ℕ) (gone : List Bool) (seen : List (List ℕ)) (fs : List File)
    → Numbered num fs
    → Each (Flagged num gone seen) fs
    → map (λ g. g.place) (each_once seen (filter (λ g. is_counted claimed called g.place) fs))
    ≡ gathered claimed called gone (map (numbered num) fs)
once_is claimed called num gone seen [] n flags = refl
once_is claimed called num gone seen (f ∷ fs) n flags =
    by (is_counted claimed called f.place) (list_any (pointwise nat_eq f.path) seen) (get_or gone (num f.path) false) flags.0.1 _ _ _
    (once_is claimed called num gone seen fs n.1 flags.1)
    (once_is claimed called num (slice_set gone (num f.path) true) (f.path ∷ seen) fs n.1
    (each_two (λ g. pointwise nat_eq g.path f.path ≡ nat_eq (num f.path) (num g.path)) (Flagged num gone seen)
    (Flagged num (slice_set gone (num f.path) true) (f.path ∷ seen)) (λ g a o. flag_more num gone seen f g flags.0.0 a o)
    fs n.0 flags.1)) refl
  where
    places : List File → List Place
    places gs = map (λ g. g.place) gs

    -- Plan: by whether the path was seen before: the code's flag for its number says the same.
    by : (t u v : Bool) → v ≡ u → (rest : List File) (later now : List Place) → places (each_once seen rest) ≡ later
        → places (each_once (f.path ∷ seen) rest) ≡ now → list_any (pointwise nat_eq f.path) seen ≡ u
        → places (each_once seen (if t then f ∷ rest else rest)) ≡ (if (t && not v) then f.place ∷ now else later)
    by false u v e rest later now skip keep is = skip
    by true true true e rest later now skip keep is = rw is skip
    by true true false e rest later now skip keep is = absurd cc
    by true false true e rest later now skip keep is = absurd cc
    by true false false e rest later now skip keep is = rw is (ap (λ l. f.place ∷ l) keep)

-- the number of a path among these files
abbrev pub number_in : List File → List ℕ → ℕ
number_in fs p = unwrap_or (first_with 0 p fs) (length fs)

-- the first file with a path is an earlier one with it, or else the file itself
first_here : (i : ℕ) (p : List ℕ) (before : List File) (f : File) (rest : List File) → pointwise nat_eq p f.path ≡ true
    → first_with i p (before ++ f ∷ rest) ≡ Some (unwrap_or (first_with i p before) (i + length before))
first_here i p [] f rest e = ap (λ (t : Bool). if t then Some i else first_with (i + 1) p rest) e
    ∙ ap (λ n. Some n) (let z : i ≡ i + 0 = omega arith in z)
first_here i p (b ∷ before) f rest e = by (pointwise nat_eq p b.path) (first_here (i + 1) p before f rest e)
  where
    by : (t : Bool) → first_with (i + 1) p (before ++ f ∷ rest) ≡ Some (unwrap_or (first_with (i + 1) p before) (i + 1 + length before))
        → (if t then Some i else first_with (i + 1) p (before ++ f ∷ rest))
        ≡ Some (unwrap_or (if t then Some i else first_with (i + 1) p before) (i + suc (length before)))
    by true ih = refl
    by false ih = ih ∙ ap (λ n. Some (unwrap_or (first_with (i + 1) p before) n))
        (let z : i + 1 + length before ≡ i + suc (length before) = omega arith in z)

-- a file's path has the number of the first file with that path, or its own
number_here : (before : List File) (f : File) (rest : List File) → number_in (before ++ f ∷ rest) f.path ≡ unwrap_or
    (first_with 0 f.path before) (length before)
number_here before f rest = ap (λ o. unwrap_or o (length (before ++ f ∷ rest)))
    (first_here 0 f.path before f rest (nat_list_eq_equiv.refl f.path))
    ∙ ap (λ n. unwrap_or (first_with 0 f.path before) n) (let z : 0 + length before ≡ length before = omega arith in z)

-- the numbers that the code gives are those of the first file of each path
pub numbered_are : (fs before rest : List File) → before ++ rest ≡ fs → numbered_files before rest ≡ map (numbered (number_in fs)) rest
numbered_are fs before [] e = refl
numbered_are fs before (f ∷ rest) e = ap (λ n. record { place = f.place; first = n } ∷ numbered_files (before ++ f ∷ []) rest)
    (sym (number_here before f rest) ∙ ap (λ l. number_in l f.path) e)
    ∙ ap (λ l. record { place = f.place; first = number_in fs f.path } ∷ l) (numbered_are fs (before ++ f ∷ []) rest
    (append_assoc before (f ∷ []) rest ∙ e))

-- a file is one of the list
record In (fs : List File) (f : File) : Type 0 where
  before : List File
  rest : List File
  parts : before ++ f ∷ rest ≡ fs

-- what holds of each file of a list holds of each that is left
each_in : (P : File → Type 0) (fs before rest : List File) → before ++ rest ≡ fs → ((g : File) → In fs g → P g) → Each P rest
each_in P fs before [] e h = tt
each_in P fs before (f ∷ rest) e h = (
  h f (record { before = before; rest = rest; parts = e }),
  each_in P fs (before ++ f ∷ []) rest
      (append_assoc before (f ∷ []) rest ∙ e) h,
)

-- a path has a first file
record Found (fs : List File) (p : List ℕ) : Type 0 where
  n : ℕ
  is : first_with 0 p fs ≡ Some n

-- the path of a file of the list has a first file
found_in : (fs : List File) (f : File) → In fs f → Found fs f.path
found_in fs f i = record {
  n = unwrap_or (first_with 0 f.path i.before) (0 + length i.before);
  is = ap (λ l. first_with 0 f.path l)
      (sym i.parts) ∙ first_here 0 f.path i.before f i.rest (nat_list_eq_equiv.refl f.path);
}

-- the number that is found is one of the list
first_from : (i : ℕ) (p : List ℕ) (fs : List File) (n : ℕ) → first_with i p fs ≡ Some n → (i ≤ n) × (n < i + length fs)
first_from i p [] n e = absurd cc
first_from i p (f ∷ fs) n e = by (pointwise nat_eq p f.path) e (λ h. first_from (i + 1) p fs n h)
  where
    by : (t : Bool) → (if t then Some i else first_with (i + 1) p fs) ≡ Some n
        → (first_with (i + 1) p fs ≡ Some n → (i + 1 ≤ n) × (n < i + 1 + length fs)) → (i ≤ n) × (n < i + suc (length fs))
    by true h ih = (let is : i ≡ n = some_is h in omega (arith, is), let is : i ≡ n = some_is h in omega (arith, is))
    by false h ih = (let le : i + 1 ≤ n = (ih h).0 in omega (arith, le), let lt : n < i + 1 + length fs = (ih h).1 in omega (arith, lt))

-- two paths with one first file are the same
first_one : (i : ℕ) (p q : List ℕ) (fs : List File) (n : ℕ) → first_with i p fs ≡ Some n → first_with i q fs ≡ Some n → p ≡ q
first_one i p q [] n e h = absurd cc
first_one i p q (f ∷ fs) n e h = by (pointwise nat_eq p f.path) (pointwise nat_eq q f.path) refl refl e h
    (λ x y. first_one (i + 1) p q fs n x y)
  where
    -- Plan: by which of the two paths the first file has; a later file has a later number (`later`).
    later : (r : List ℕ) → Some i ≡ Some n → first_with (i + 1) r fs ≡ Some n → ⊥
    later r x y = let is : i ≡ n = some_is x in let le : i + 1 ≤ n = (first_from (i + 1) r fs n y).0 in omega (arith, is, le)

    by : (t u : Bool) → pointwise nat_eq p f.path ≡ t → pointwise nat_eq q f.path ≡ u → (if t then Some i else first_with (i + 1) p fs)
        ≡ Some n → (if u then Some i else first_with (i + 1) q fs) ≡ Some n
        → (first_with (i + 1) p fs ≡ Some n → first_with (i + 1) q fs ≡ Some n → p ≡ q) → p ≡ q
    by true true a b x y ih = same_text p f.path (sym a) ∙ sym (same_text q f.path (sym b))
    by true false a b x y ih = absurd (later q x y)
    by false true a b x y ih = absurd (later p y x)
    by false false a b x y ih = ih x y

-- two files of a list have the same path exactly if their paths have the same number
alike : (fs : List File) (f g : File) → In fs f → In fs g → pointwise nat_eq g.path f.path ≡ nat_eq (number_in fs f.path)
    (number_in fs g.path)
alike fs f g i j = by (pointwise nat_eq g.path f.path) refl
  where
    -- Plan: equal paths have the same first file. The other way round, both files' paths are that of the file with this number (`one`).
    one : nat_eq (number_in fs f.path) (number_in fs g.path) ≡ true → f.path ≡ g.path
    one e = paths (found_in fs f i) (found_in fs g j)
      where
        paths : Found fs f.path → Found fs g.path → f.path ≡ g.path
        paths x y = first_one 0 f.path g.path fs x.n x.is (y.is ∙ ap (λ n. Some n) (sym (ap (λ o. unwrap_or o (length fs)) y.is)
            ∙ sym (same (number_in fs f.path) (number_in fs g.path) e) ∙ ap (λ o. unwrap_or o (length fs)) x.is))

    by : (t : Bool) → pointwise nat_eq g.path f.path ≡ t → t ≡ nat_eq (number_in fs f.path) (number_in fs g.path)
    by true e = sym (ap (λ p. nat_eq (number_in fs f.path) (number_in fs p)) (same_text g.path f.path (sym e))
        ∙ nat_eq_equiv.refl (number_in fs f.path))
    by false e = no (nat_eq (number_in fs f.path) (number_in fs g.path)) refl
      where
        -- other paths have other numbers
        no : (u : Bool) → nat_eq (number_in fs f.path) (number_in fs g.path) ≡ u → false ≡ u
        no true h = absurd (clash (ap (λ p. pointwise nat_eq g.path p) (one h)
            ∙ nat_list_eq_equiv.refl g.path) e)
        no false h = refl

-- the numbers tell the paths that are left apart
numbered_rest : (fs before rest : List File) → before ++ rest ≡ fs → Numbered (number_in fs) rest
numbered_rest fs before [] e = tt
numbered_rest fs before (f ∷ rest) e = (
  each_in (λ g. pointwise nat_eq g.path f.path ≡ nat_eq (number_in fs f.path) (number_in fs g.path)) fs (before ++ f ∷ []) rest
      (append_assoc before (f ∷ []) rest ∙ e) (λ g j. alike fs f g (record { before = before; rest = rest; parts = e }) j),
  numbered_rest fs (before ++ f ∷ []) rest (append_assoc before (f ∷ []) rest ∙ e),
)

-- the numbers tell the paths of a list apart
pub numbered_all : (fs : List File) → Numbered (number_in fs) fs
numbered_all fs = numbered_rest fs [] fs refl

-- at the beginning no path is seen, and no flag is set
pub none_flagged : (fs : List File) → Each (Flagged (number_in fs) (replicate (length fs) false) []) fs
none_flagged fs = each_in (Flagged (number_in fs) (replicate (length fs) false) []) fs [] fs refl
    (λ g i. flagged g (below g (found_in fs g i)))
  where
    -- Plan: each number is below the number of files (`below`), where all flags are unset (`flagged`).
    below : (g : File) → Found fs g.path → number_in fs g.path < length fs
    below g x =
        let is : number_in fs g.path ≡ x.n = ap (λ o. unwrap_or o (length fs)) x.is in
        let lt : x.n < 0 + length fs = (first_from 0 g.path fs x.n x.is).1 in
        omega (arith, is, lt)

    flagged : (g : File) → number_in fs g.path < length fs → Flagged (number_in fs) (replicate (length fs) false) [] g
    flagged g lt = (
      subst (λ n. number_in fs g.path < n) (sym (length-replicate (length fs) false)) lt,
      get_or-replicate (length fs)
          (number_in fs g.path) false false lt,
    )

-- The counts are those of the events.

-- an item of a list of which one is new
get_set : {X : Type 0} (xs : List X) (k j : ℕ) (x d : X) → j < length xs → get_or (slice_set xs k x) j d
    ≡ (if nat_eq k j then x else get_or xs j d)
get_set xs k j x d lt = by (nat_eq k j) refl
  where
    by : (t : Bool) → nat_eq k j ≡ t → get_or (slice_set xs k x) j d ≡ (if t then x else get_or xs j d)
    by true e = subst (λ i. get_or (slice_set xs i x) j d ≡ x) (sym (same k j e)) (get_or-set_same xs j x d lt)
    by false e = get_or-set_other xs k j x d (λ is. clash (ap (λ i. nat_eq i j) (sym is) ∙ nat_eq_equiv.refl j) e)

noting_is : (claimed : List ℕ) (k : ℕ) (s : Step) (x : Answer) → k < length claimed
    → (length (noting claimed s x) ≡ length claimed) × (get_or (noting claimed s x) k 0 ≡ get_or claimed k 0 + length (claim_by k s x))
noting_is claimed k (step.Claim (place.Temp j i)) (answer.Claim claim.Claimed) lt =
    (length-set claimed j (get_or claimed j 0 + 1), get_set claimed j k (get_or claimed j 0 + 1) 0 lt ∙ by (nat_eq j k) refl)
  where
    by : (t : Bool) → nat_eq j k ≡ t → (if t then get_or claimed j 0 + 1 else get_or claimed k 0)
        ≡ get_or claimed k 0 + length (if t then i ∷ [] else [])
    by true e = ap (λ n. get_or claimed n 0 + 1) (same j k e)
    by false e = omega arith
noting_is claimed k (step.Claim p) (answer.Claim claim.Claimed) lt =
    (refl, (let z : get_or claimed k 0 ≡ get_or claimed k 0 + 0 = omega arith in z))
noting_is claimed k s x lt = (refl, (let z : get_or claimed k 0 ≡ get_or claimed k 0 + 0 = omega arith in z))

noted_is : (claimed : List ℕ) (k : ℕ) (E : List RunEvent) → k < length claimed
    → get_or (noted claimed E) k 0 ≡ get_or claimed k 0 + length (claims_in k E)
noted_is claimed k [] lt = omega arith
noted_is claimed k (e ∷ E) lt =
    let one = noting_is claimed k e.step e.answer lt in
    let len = one.0 in
    let here = one.1 in
    let rest = noted_is (noting claimed e.step e.answer) k E (omega (arith, len, lt)) in
    let all = length-append (claim_by k e.step e.answer) (claims_in k E) in
    omega (arith, here, rest, all)

calling_is : (called : List Bool) (k : ℕ) (s : Step) → k < length called
    → (length (calling called s) ≡ length called) × (get_or (calling called s) k false ≡ (is_call_of k s || get_or called k false))
calling_is called k (step.Claim p) lt = (
  length-set called (job_of p) true,
  get_set called (job_of p) k true false lt
      ∙ by (nat_eq (job_of p) k),
)
  where
    by : (t : Bool) → (if t then true else get_or called k false) ≡ (t || get_or called k false)
    by true = refl
    by false = refl
calling_is called k (step.Start p from_pipe to_pipe) lt = (
  length-set called (job_of p) true,
  get_set called (job_of p) k true false lt
      ∙ by (nat_eq (job_of p) k),
)
  where
    by : (t : Bool) → (if t then true else get_or called k false) ≡ (t || get_or called k false)
    by true = refl
    by false = refl
calling_is called k s lt = (refl, refl)

called_is : (called : List Bool) (k : ℕ) (E : List RunEvent) → k < length called
    → get_or (called_by called E) k false ≡ (list_any (λ e. is_call_of k e.step) E || get_or called k false)
called_is called k [] lt = refl
called_is called k (e ∷ E) lt =
    let one = calling_is called k e.step lt in
    called_is (calling called e.step) k E (subst (λ n. k < n) (sym one.0) lt)
    ∙ ap (λ t. list_any (λ e. is_call_of k e.step) E || t) one.1
    ∙ turn (list_any (λ e. is_call_of k e.step) E) (is_call_of k e.step) (get_or called k false)
  where
    turn : (a b c : Bool) → (a || (b || c)) ≡ ((b || a) || c)
    turn true true c = refl
    turn true false c = refl
    turn false true c = refl
    turn false false c = refl

filter_same : (P : File → Type 0) (p q : File → Bool) (fs : List File) → Each P fs → ((f : File) → P f → p f ≡ q f)
    → filter p fs ≡ filter q fs
filter_same P p q [] e h = refl
filter_same P p q (f ∷ fs) e h = rw (h f e.0, filter_same P p q fs e.1 h) refl

-- a file is left by the counts as by the events
counted_left : (n : ℕ) (E : List RunEvent) (p : Place) → job_of p < n
    → is_counted (noted (replicate n 0) E) (called_by (replicate n false) E) p ≡ is_left E p
counted_left n E (place.Temp k i) lt = ap (λ m. nat_lt i m)
    (noted_is (replicate n 0) k E (subst (λ m. k < m) (sym (length-replicate n 0)) lt)
    ∙ ap (λ m. m + length (claims_in k E)) (get_or-replicate n k 0 0 lt)
    ∙ (let z : 0 + length (claims_in k E) ≡ length (claims_in k E) = omega arith in z))
counted_left n E (place.Marked k i) lt = called_is (replicate n false) k E (subst (λ m. k < m) (sym (length-replicate n false)) lt)
    ∙ ap (λ t. list_any (λ e. is_call_of k e.step) E || t) (get_or-replicate n k false false lt)
    ∙ or_false (list_any (λ e. is_call_of k e.step) E)
counted_left n E p lt = refl

-- what the code gathers is what is left
pub gathered_is : (plan : Plan) (E : List RunEvent) → gathered (noted (replicate (length plan.jobs + 1) 0) E)
    (called_by (replicate (length plan.jobs + 1) false) E) (replicate (length (all_files plan)) false) (numbered_files [] (all_files plan))
    ≡ swept plan E
gathered_is plan E = sym (ap (λ fs. map (λ g. g.place) (each_once [] fs)) (filter_same (λ f. job_of f.place < length plan.jobs + 1)
    (λ g. is_left E g.place) (λ g. is_counted claimed called g.place) (all_files plan)
    (all_each (λ p. job_of p < length plan.jobs + 1) plan (λ k i lt h. lt) (λ k i lt h. lt))
    (λ f lt. sym (counted_left (length plan.jobs + 1) E f.place lt)))
    ∙ once_is claimed called (number_in (all_files plan)) gone [] (all_files plan) (numbered_all (all_files plan))
    (none_flagged (all_files plan))
    ∙ ap (gathered claimed called gone) (sym (numbered_are (all_files plan) [] (all_files plan) refl)))
  where
    claimed : List ℕ
    claimed = noted (replicate (length plan.jobs + 1) 0) E

    called : List Bool
    called = called_by (replicate (length plan.jobs + 1) false) E

    gone : List Bool
    gone = replicate (length (all_files plan)) false

-- as many are numbered as there are files
many_numbered : (fs : List File) → length (numbered_files [] fs) ≡ length fs
many_numbered fs = ap (λ (l : List Leftover). length l) (numbered_are fs [] fs refl) ∙ length-map fs (numbered (number_in fs))

-- the code's own lists, before anything was counted
pub swept_by : (plan : Plan) (E : List RunEvent) (x : Leftovers) → IsFresh plan x
    → gathered (noted x.claimed.items E) (called_by x.called.items E) x.gone.items (leftover_list x.files.items) ≡ swept plan E
swept_by plan E x f = rw (f.claimed, f.called, gone, f.files) (gathered_is plan E)
  where
    gone : x.gone.items ≡ replicate (length (all_files plan)) false
    gone = f.gone ∙ ap (λ n. replicate n false) (sym (length-map x.files.items leftover_of) ∙ ap (λ (l : List Leftover). length l) f.files
        ∙ many_numbered (all_files plan))

-- an event claims at most one temporary of a job
pub noting_few : (claimed : List ℕ) (k : ℕ) (s : Step) (x : Answer) → get_or (noting claimed s x) k 0 ≤ get_or claimed k 0 + 1
noting_few claimed k (step.Claim (place.Temp j i)) (answer.Claim claim.Claimed) = by (nat_lt k (length claimed)) refl
  where
    by : (t : Bool) → nat_lt k (length claimed) ≡ t → get_or (counted claimed j) k 0 ≤ get_or claimed k 0 + 1
    by true e =
        let is = get_set claimed j k (get_or claimed j 0 + 1) 0 (is_less k (length claimed) e) in
        let same_job = here (nat_eq j k) refl in
        rw is same_job
      where
        here : (t : Bool) → nat_eq j k ≡ t → (if t then get_or claimed j 0 + 1 else get_or claimed k 0) ≤ get_or claimed k 0 + 1
        here true e = let at : j ≡ k = same j k e in subst (λ n. get_or claimed n 0 + 1 ≤ get_or claimed k 0 + 1) (sym at) (omega arith)
        here false e = omega arith
    by false e =
        let past = is_not_less k (length claimed) e in
        let len = length-set claimed j (get_or claimed j 0 + 1) in
        let none : get_or (counted claimed j) k 0 ≡ 0 = get_or_past (counted claimed j) k 0 (omega (arith, past, len)) in
        omega (arith, none)
noting_few claimed k s x = omega arith

pub few_more : (claimed new : List ℕ) (E : List RunEvent) (i k : ℕ) (d : RunEvent)
    → new ≡ noting claimed (get_or E i d).step (get_or E i d).answer → get_or claimed k 0 ≤ i
    → get_or new k 0 ≤ i + 1
few_more claimed new E i k d is few = subst (λ l. get_or l k 0 ≤ i + 1) (sym is)
    (let more = noting_few claimed k (get_or E i d).step (get_or E i d).answer in omega (arith, more, few))

-- what is counted after one event more, and then what is left, is all
pub noted_on : (claimed new start : List ℕ) (E : List RunEvent) (i : ℕ) (d : RunEvent) → i < length E
    → new ≡ noting claimed (get_or E i d).step (get_or E i d).answer → noted claimed (drop i E) ≡ noted start E
    → noted new (drop (i + 1) E) ≡ noted start E
noted_on claimed new start E i d lt to all = ap (λ l. noted l (drop (i + 1) E)) to ∙ sym (ap (noted claimed) (drop_more E i d lt)) ∙ all

pub called_on : (called new start : List Bool) (E : List RunEvent) (i : ℕ) (d : RunEvent) → i < length E
    → new ≡ calling called (get_or E i d).step → called_by called (drop i E) ≡ called_by start E
    → called_by new (drop (i + 1) E) ≡ called_by start E
called_on called new start E i d lt to all = ap (λ l. called_by l (drop (i + 1) E)) to ∙ sym (ap (called_by called) (drop_more E i d lt))
    ∙ all
