use Rattle.drv_core.proofs.Counting.{same}
use Rattle.drv_core.specs.Code.LeftoverView.{leftover_of, leftover_list}
use Rattle.drv_core.specs.Code.Numbering.{Leftover, Noted, Noting, first_with, numbered_files}
use Rattle.drv_core.specs.Windowed.{File, all_files, files_from, job_files}
use Rattle.drv_core.specs.declared.leftovers.Leftover.{Leftover as CodeLeftover}
use Rattle.drv_words.specs.declared.plan.Job.{Job}
use Rattle.drv_words.specs.declared.plan.Plan.{Plan}
use Rattle.drv_words.specs.declared.steps.Place.{Place}
use Rattle.std.proofs.Common.{◌≡◌, ◌<◌, ◌≤◌, ◌+◌, ◌∙◌, Bool, false, true, List, [], ◌∷◌, ◌++◌, None, Option, Some, ap, append-nil}
use Rattle.std.proofs.Common.{append_assoc, arith, cond, drop, get_or, if◌then◌else◌, length, nat_eq, refl, subst, suc, sym}
use Rattle.std.proofs.Common.{unwrap_or, ℕ}
use Rattle.std.proofs.lemmas.Cmp.{nat_eq_equiv}
use Rattle.std.proofs.lemmas.Cmp.{nat_list_eq_equiv}
use Rattle.std.proofs.lemmas.List.{drop_all, drop_more, length-map, map-append}
use Rattle.std.specs.Cmp.Lexicographic.{pointwise, same_text}
use Rattle.std.specs.Option.{option_to_list}

-- For the removals at the end: the code numbers the paths of the leftover files (numbering.rt), file by file: a path has the number of its
-- first file. `Noted` is what holds after some files, `Noting` within a list of them.
-- Names: `t` is the value of a test, so that `by` can go by both cases. `before` is the files that were numbered before. `find` gives the
-- number that the code's map has for a path. `files` is the code's list of files. `n` is the number of the next file. `p` is any path.
-- `path` is the path of the file that is added. `first` is the number of the first file of that path. `new` and `now` are the list and the
-- map after it. `place` is the place of the file. `x` is a file, an item of a list, or what a search finds. In `Noting all rest` `all` is
-- the list, and `rest` what is left of it. `first_with`: the number of the first file with a path. `numbered_files`: each file with the
-- number of the first file of its path. `same`: a true test for equality.

-- the search continues after a list

-- what the first search found, or else the second
abbrev pub found_then : Option ℕ → Option ℕ → Option ℕ
found_then None o = o
found_then (Some n) o = Some n

-- the search in two lists of files
pub first_front : (i : ℕ) (p : List ℕ) (xs ys : List File) → first_with i p (xs ++ ys) ≡ found_then (first_with i p xs)
    (first_with (i + length xs) p ys)
first_front i p [] ys = ap (λ n. first_with n p ys) (let e : i ≡ i + 0 = omega arith in e)
first_front i p (x ∷ xs) ys = by (pointwise nat_eq p x.path) (first_front (i + 1) p xs ys)
  where
    by : (t : Bool) → first_with (i + 1) p (xs ++ ys) ≡ found_then (first_with (i + 1) p xs) (first_with (i + 1 + length xs) p ys)
        → (if t then Some i else first_with (i + 1) p (xs ++ ys)) ≡ found_then (if t then Some i else first_with (i + 1) p xs)
        (first_with (i + length (x ∷ xs)) p ys)
    by true ih = refl
    by false ih = ih ∙ ap (λ n. found_then (first_with (i + 1) p xs) (first_with n p ys))
        (let e : i + 1 + length xs ≡ i + length (x ∷ xs) = omega arith in e)

-- files that are numbered in two parts
pub numbered_append : (before xs ys : List File) → numbered_files before (xs ++ ys) ≡ numbered_files before xs ++ numbered_files
    (before ++ xs) ys
numbered_append before [] ys = ap (λ l. numbered_files l ys) (sym (append-nil before))
numbered_append before (x ∷ xs) ys = ap (λ l. record { place = x.place; first = unwrap_or (first_with 0 x.path before) (length before) } ∷
    l) (numbered_append (before ++ x ∷ []) xs ys
    ∙ ap (λ l. numbered_files (before ++ x ∷ []) xs ++ numbered_files l ys) (append_assoc before (x ∷ []) xs))

-- as many are numbered as there are files
pub many_lefts : (before xs : List File) → length (numbered_files before xs) ≡ length xs
many_lefts before [] = refl
many_lefts before (x ∷ xs) = ap (λ (n : ℕ). suc n) (many_lefts (before ++ x ∷ []) xs)

-- one more file

-- the number that the code finds for a path is that of its first file, or a new one
noted_first : (before : List File) (files : List Leftover) (find : List ℕ → Option ℕ) (path : List ℕ) (first : ℕ) → Noted before files find
    → first ≡ unwrap_or (find path) (length files) → first ≡ unwrap_or (first_with 0 path before) (length before)
noted_first before files find path first h is = is ∙ ap (λ o. unwrap_or o (length files)) (h.found path)
    ∙ ap (λ n. unwrap_or (first_with 0 path before) n) (ap (λ (l : List Leftover). length l) h.files_are ∙ many_lefts [] before)

-- the file with this place and path
abbrev file_of : Place → List ℕ → File
file_of place path = record { place = place; path = path }

-- the code's list with one more file is the numbered list
files_more : (before : List File) (files new : List Leftover) (find : List ℕ → Option ℕ) (place : Place) (path : List ℕ) (first : ℕ)
    → Noted before files find → first ≡ unwrap_or (find path) (length files)
    → new ≡ files ++ record { place = place; first = first } ∷ [] → new ≡ numbered_files [] (before ++ file_of place path ∷ [])
files_more before files new find place path first h is e = e ∙ ap (λ n. files ++ record { place = place; first = n } ∷ [])
    (noted_first before files find path first h is)
    ∙ ap (λ l. l ++ numbered_files before (file_of place path ∷ [])) h.files_are ∙ sym (numbered_append [] before (file_of place path ∷ []))

-- what is found for a path, after one more file with its path and number was added
found_more : (before : List File) (n : ℕ) (path p : List ℕ) (place : Place) (first : ℕ) (o : Option ℕ) → n ≡ length before
    → first ≡ unwrap_or (first_with 0 path before) n → o ≡ first_with 0 p before
    → (if nat_eq first n then cond (pointwise nat_eq path p) (Some n) o else o) ≡ first_with 0 p (before ++ file_of place path ∷ [])
found_more before n path p place first o many is known = by (pointwise nat_eq path p) refl
    ∙ sym (first_front 0 p before (file_of place path ∷ []))
  where
    -- Plan: by whether the path that is looked up is that of the new file. If so, it is found as before, or else, if the path was new, at
    -- the new number.
    fresh : (t u : Bool) → nat_eq first n ≡ t → (x : Option ℕ) → first_with 0 path before ≡ x
        → (if t then Some n else x) ≡ found_then x (Some n)
    fresh true u e None is_none = refl
    fresh true u e (Some m) is_some = ap (λ k. Some k) (sym (same first n e) ∙ is ∙ ap (λ (x : Option ℕ). unwrap_or x n) is_some)
    fresh false u e (Some m) is_some = refl
    fresh false u e None is_none =
        absurd (let clash : true ≡ false = sym (nat_eq_equiv.refl n)
        ∙ ap (λ k. nat_eq k n) (sym (is ∙ ap (λ (x : Option ℕ). unwrap_or x n) is_none)) ∙ e in cc)

    with_none : (x : Option ℕ) → x ≡ found_then x None
    with_none None = refl
    with_none (Some m) = refl

    whichever : (t : Bool) → o ≡ (if t then o else o)
    whichever true = refl
    whichever false = refl

    by : (t : Bool) → pointwise nat_eq path p ≡ t → (if nat_eq first n then cond t (Some n) o else o) ≡ found_then (first_with 0 p before)
        (if pointwise nat_eq p path then Some (0 + length before) else None)
    by true e =
        let one : path ≡ p = same_text path p (sym e) in
        let found : o ≡ first_with 0 path before = known ∙ ap (λ q. first_with 0 q before) (sym one) in
        ap (λ x. if nat_eq first n then Some n else x) found ∙ fresh (nat_eq first n) true refl (first_with 0 path before) refl
        ∙ ap (λ q. found_then (first_with 0 q before) (Some n)) one
        ∙ ap (λ k. found_then (first_with 0 p before) (Some k)) (let z : n ≡ 0 + length before = omega (arith, many) in z)
        ∙ ap (λ (t : Bool). found_then (first_with 0 p before) (if t then Some (0 + length before) else None))
        (sym (nat_list_eq_equiv.symm p path ∙ e))
    by false e = sym (whichever (nat_eq first n)) ∙ known ∙ with_none (first_with 0 p before)
        ∙ ap (λ (t : Bool). found_then (first_with 0 p before) (if t then Some (0 + length before) else None))
        (sym (nat_list_eq_equiv.symm p path ∙ e))

-- what holds of the numbered files holds after one more file
pub noted_more : (before : List File) (files new : List Leftover) (find now : List ℕ → Option ℕ) (place : Place) (path : List ℕ)
    (first n : ℕ) → Noted before files find → n ≡ length files → first ≡ unwrap_or (find path) n
    → new ≡ files ++ record { place = place; first = first } ∷ []
    → ((p : List ℕ) → now p ≡ (if nat_eq first n then cond (pointwise nat_eq path p) (Some n) (find p) else find p))
    → Noted (before ++ file_of place path ∷ []) new now
noted_more before files new find now place path first n h many is e found = record {
  files_are = files_more before files new find place path first h (is ∙ ap (λ k. unwrap_or (find path) k) many) e;
  found = λ p. found p ∙ found_more before n path p place first (find p) (many ∙ ap (λ (l : List Leftover). length l) h.files_are
      ∙ many_lefts [] before) (is ∙ ap (λ o. unwrap_or o n) (h.found path)) (h.found p);
}

-- lists of files

-- before the loop no file of the list is noted
pub noting_starts : (before rest : List File) (files : List Leftover) (find : List ℕ → Option ℕ) → Noted before files find
    → Noting (before ++ rest) rest files find
noting_starts before rest files find h = record { before = before; parts = refl; noted = h }

-- after the loop all files of the list are noted
pub noting_ends : (all : List File) (files : List Leftover) (find : List ℕ → Option ℕ) → Noting all [] files find → Noted all files find
noting_ends all files find h = subst (λ l. Noted l files find) (sym (append-nil h.before) ∙ h.parts) h.noted

-- some more files of the list are noted
pub noting_on : (all more rest : List File) (files new : List Leftover) (find now : List ℕ → Option ℕ)
    → Noting all (more ++ rest) files find → ((before : List File) → Noted before files find → Noted (before ++ more) new now)
    → Noting all rest new now
noting_on all more rest files new find now h goes = record {
  before = h.before ++ more;
  parts = append_assoc h.before more rest
      ∙ h.parts;
  noted = goes h.before h.noted;
}

-- the files of the next item of a list are noted
pub noting_next : {X : Type 0} (from : ℕ → List X → List File) (one : ℕ → X → List File) (all : List File) (xs : List X) (i : ℕ) (x : X)
    (files new : List Leftover) (find now : List ℕ → Option ℕ)
    → ((rest : List X) → from i (x ∷ rest) ≡ one i x ++ from (i + 1) rest) → x ≡ get_or xs i x → i < length xs
    → Noting all (from i (drop i xs)) files find → ((before : List File) → Noted before files find → Noted (before ++ one i x) new now)
    → Noting all (from (i + 1) (drop (i + 1) xs)) new now
noting_next from one all xs i x files new find now steps is here h goes =
    noting_on all (one i x) (from (i + 1) (drop (i + 1) xs)) files new find now
    (subst (λ l. Noting all l files find) (ap (λ l. from i l) (drop_more xs i x here) ∙ ap (λ y. from i (y ∷ drop (i + 1) xs)) (sym is)
    ∙ steps (drop (i + 1) xs)) h) goes

-- after the last item all its files are noted
pub noting_all : {X : Type 0} (from : ℕ → List X → List File) (before : List File) (xs all : List X) (i : ℕ) (files : List Leftover)
    (find : List ℕ → Option ℕ)
    → from i [] ≡ [] → length xs ≤ i → xs ≡ all → Noting (before ++ from 0 xs) (from i (drop i xs)) files find
    → Noted (before ++ from 0 all) files find
noting_all from before xs all i files find none past is h = subst (λ l. Noted (before ++ from 0 l) files find) is
    (noting_ends (before ++ from 0 xs) files find (subst (λ l. Noting (before ++ from 0 xs) l files find)
    (ap (λ l. from i l) (drop_all i xs past) ∙ none) h))

-- before the first file the code's list is empty, and no path is found
pub noted_none : (files : List CodeLeftover) (find : List ℕ → Option ℕ) → files ≡ [] → ((p : List ℕ) → find p ≡ None)
    → Noted [] (leftover_list files) find
noted_none files find no_files none = record { files_are = ap leftover_list no_files; found = none }

-- one more file is noted, in the code's own list
pub noted_file : (before : List File) (files new : List CodeLeftover) (find now : List ℕ → Option ℕ) (place : Place) (path : List ℕ)
    (first n : ℕ) → Noted before (leftover_list files) find → n ≡ length files → first ≡ unwrap_or (find path) n
    → new ≡ files ++ record { place = place; first = first } ∷ []
    → ((p : List ℕ) → now p ≡ (if nat_eq first n then cond (pointwise nat_eq path p) (Some n) (find p) else find p))
    → Noted (before ++ file_of place path ∷ []) (leftover_list new) now
noted_file before files new find now place path first n h many is e found = noted_more before (leftover_list files) (leftover_list new) find
    now place path first n h (many ∙ sym (length-map files leftover_of)) is (ap leftover_list e
    ∙ map-append leftover_of files (record { place = place; first = first } ∷ [])) found

-- a choice by two equal numbers is its first value
pub by_same : {X : Type 0} (a b : ℕ) (value same apart : X) → a ≡ b → value ≡ same → value ≡ (if nat_eq a b then same else apart)
by_same a b value same apart e is =
    is ∙ ap (λ (t : Bool). if t then same else apart) (sym (ap (λ n. nat_eq a n) (sym e) ∙ nat_eq_equiv.refl a))

-- the leftover files of two lists of jobs are those of the one and those of the other
pub files_append : (k : ℕ) (xs ys : List Job) → files_from k (xs ++ ys) ≡ files_from k xs ++ files_from (k + length xs) ys
files_append k [] ys = ap (λ n. files_from n ys) (let e : k ≡ k + 0 = omega arith in e)
files_append k (x ∷ xs) ys = ap (λ l. job_files k x ++ l) (files_append (k + 1) xs ys)
    ∙ ap (λ n. job_files k x ++ (files_from (k + 1) xs ++ files_from n ys))
    (let e : k + 1 + length xs ≡ k + length (x ∷ xs) = omega arith in e)
    ∙ sym (append_assoc (job_files k x) (files_from (k + 1) xs) (files_from (k + length (x ∷ xs)) ys))

-- without a link all leftover files are those of the sources
pub all_none : (plan : Plan) → plan.link ≡ None → files_from 0 plan.jobs ≡ all_files plan
all_none plan e = sym (ap (λ l. files_from 0 (plan.jobs ++ option_to_list l)) e ∙ ap (λ l. files_from 0 l) (append-nil plan.jobs))

-- with a link all leftover files are those of the sources and of the link
pub all_some : (plan : Plan) (job : Job) → plan.link ≡ Some job → files_from 0 plan.jobs ++ job_files (length plan.jobs) job
    ≡ all_files plan
all_some plan job e = sym (ap (λ l. files_from 0 (plan.jobs ++ option_to_list l)) e ∙ files_append 0 plan.jobs (job ∷ [])
    ∙ ap (λ l. files_from 0 plan.jobs ++ l) (append-nil (job_files (0 + length plan.jobs) job)
    ∙ ap (λ n. job_files n job) (let z : 0 + length plan.jobs ≡ length plan.jobs = omega arith in z)))
