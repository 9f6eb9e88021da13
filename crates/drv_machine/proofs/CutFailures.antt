use Rattle.drv_machine.proofs.Runs.{Course, bare, breaks, breaks_bare, course, end_kept, file_kept, moved, moves, opened_by, over}
use Rattle.drv_machine.proofs.Runs.{pipe_kept, pipes, pipes_bare, with_word}
use Rattle.drv_machine.specs.Context.{Context}
use Rattle.drv_machine.specs.Cuts.{each, failure_at, failure_files, has_begun, is_output, is_word_before, last_in, list_of, opens_word}
use Rattle.drv_machine.specs.Cuts.{path_of, places_after, run_before}
use Rattle.drv_machine.specs.Cutting.{Cut, all_taken, inside_done, nothing_cut, pipe_ended}
use Rattle.drv_machine.specs.Working.{◌>>-◌, Answer, Atom, Break, End, FileFrom, FileTo, From, Marked, Open, Piped, Put, To, Without}
use Rattle.drv_system.specs.Facts.{Facts}
use Rattle.drv_system.specs.Known.{Is}
use Rattle.std.proofs.Common.{◌≡◌, ◌∙◌, ◌++◌, Bool, List, [], ◌∷◌, None, Ok, Option, Some, ap, append-nil, append_assoc, false, map, refl}
use Rattle.std.proofs.Common.{subst, suc, sym, true, zero, ℕ}
use Rattle.std.specs.List.{flat_map, list_any}
use Rattle.std.specs.Prelude.{◌&&◌, if◌then◌else◌}

-- For cut_law: the failure files of a list of atoms, which are removed if the command fails: each word that is marked as an output, and of
-- each %W the last word that ended in it. The cut keeps that word for each open %W (`inside`), and the definition looks back over the atoms
-- (`last_in`): the lemmas join the two.
-- Names: `c`, `d`: what has been cut so far, before and after. `atoms`: what the text gives, from here on. `run`: the atoms since a word
-- ended. `b`: a test's value, so that `by` can go by both cases. `F`: what is known of the outside. `C`: what the text is run for
-- (switches, texts). `X`: any type. `a`: an answer: what is known, a refusal, or nothing yet. `run_before`: the run that ends after these
-- atoms. `is_word_before`: the run that ends after these atoms is a word. `path_of`: what a word of these atoms ends as, of which its marks
-- say whether it is looked for. `has_begun`: a %W begins before, that ends after these atoms. `is_output`: the mark of %w. `list_of`: a
-- list of none or one, of what there may be. `bare`: the cut after a run that is no word. `pipe_kept`: a pipe changes only the commands of
-- a cut. `each`: answers for the items of a list. `opens_word`: the atom opens a word, if none is open. `n`: which %W, counted from the
-- innermost. `x`: the cut between `c` and `d`.

-- for each %W that is open the last word that ended in it, the innermost first, of the atoms before, the nearest first
abbrev ended_parts : Bool → List Atom → List (Option (List Atom)) → List (Option (List Atom))
ended_parts true run parts = map (λ before. Some run) parts
ended_parts false run parts = parts

-- a list without its first item: the %W around the innermost
abbrev without_first : {X : Type 0} → List X → List X
without_first [] = []
without_first (x ∷ xs) = xs

-- for each %W that is open after these atoms the last word that ended in it
abbrev open_parts : List Atom → List (Option (List Atom))
open_parts [] = []
open_parts (From ∷ before) = None ∷ open_parts before
open_parts (To ∷ before) = without_first (open_parts before)
open_parts (Break ∷ before) = ended_parts (is_word_before before) (run_before before) (open_parts before)
open_parts (Piped ∷ before) = ended_parts (is_word_before before) (run_before before) (open_parts before)
open_parts (atom ∷ before) = open_parts before

-- the item at a place, if the list has one
abbrev at_place : {X : Type 0} → List X → ℕ → Option X
at_place [] n = None
at_place (x ∷ xs) zero = Some x
at_place (x ∷ xs) (suc n) = at_place xs n

-- the last word of a %W, if as many are open
abbrev part_at : Bool → Option (List Atom) → Option (Option (List Atom))
part_at true last = Some last
part_at false last = None

-- an item after the first is one place nearer in the list without the first
after_first : {X : Type 0} (xs : List X) (n : ℕ) → at_place (without_first xs) n ≡ at_place xs (suc n)
after_first [] n = refl
after_first (x ∷ xs) n = refl

-- a word that ends is the last one at each place
all_same : (run : List Atom) (parts : List (Option (List Atom))) (n : ℕ) (begun : Bool) (last : Option (List Atom))
    → at_place parts n ≡ part_at begun last
    → at_place (map (λ before. Some run) parts) n ≡ part_at begun (Some run)
all_same run [] n true last e = absurd cc
all_same run [] n false last e = refl
all_same run (p ∷ parts) zero true last e = refl
all_same run (p ∷ parts) zero false last e = absurd cc
all_same run (p ∷ parts) (suc n) begun last e = all_same run parts n begun last e

-- after the end of a word, looking back finds that word, or the one found before where the run was no word
ended_at : (n : ℕ) (before : List Atom) → at_place (open_parts before) n ≡ part_at (has_begun n before) (last_in n before)
    → at_place (ended_parts (is_word_before before) (run_before before) (open_parts before)) n
    ≡ part_at (has_begun n before) (if is_word_before before then Some (run_before before) else last_in n before)
ended_at n before e = by (is_word_before before)
  where
    by : (b : Bool) → at_place (ended_parts b (run_before before) (open_parts before)) n
        ≡ part_at (has_begun n before) (if b then Some (run_before before) else last_in n before)
    by true = all_same (run_before before) (open_parts before) n (has_begun n before) (last_in n before) e
    by false = e

-- the word that is kept for the n-th open %W is the one that looking back over the atoms finds
parts_are : (n : ℕ) (before : List Atom) → at_place (open_parts before) n ≡ part_at (has_begun n before) (last_in n before)
parts_are n [] = refl
parts_are zero (From ∷ before) = refl
parts_are (suc n) (From ∷ before) = parts_are n before
parts_are zero (To ∷ before) = after_first (open_parts before) zero ∙ parts_are (suc zero) before
parts_are (suc n) (To ∷ before) = after_first (open_parts before) (suc n) ∙ parts_are (suc (suc n)) before
parts_are zero (Break ∷ before) = ended_at zero before (parts_are zero before)
parts_are (suc n) (Break ∷ before) = ended_at (suc n) before (parts_are (suc n) before)
parts_are zero (Piped ∷ before) = ended_at zero before (parts_are zero before)
parts_are (suc n) (Piped ∷ before) = ended_at (suc n) before (parts_are (suc n) before)
parts_are zero (Put b ∷ before) = parts_are zero before
parts_are (suc n) (Put b ∷ before) = parts_are (suc n) before
parts_are zero (Open ∷ before) = parts_are zero before
parts_are (suc n) (Open ∷ before) = parts_are (suc n) before
parts_are zero (End ∷ before) = parts_are zero before
parts_are (suc n) (End ∷ before) = parts_are (suc n) before
parts_are zero (Marked mark ∷ before) = parts_are zero before
parts_are (suc n) (Marked mark ∷ before) = parts_are (suc n) before
parts_are zero (Without ∷ before) = parts_are zero before
parts_are (suc n) (Without ∷ before) = parts_are (suc n) before
parts_are zero (FileFrom ∷ before) = parts_are zero before
parts_are (suc n) (FileFrom ∷ before) = parts_are (suc n) before
parts_are zero (FileTo ∷ before) = parts_are zero before
parts_are (suc n) (FileTo ∷ before) = parts_are (suc n) before

-- the failure file of the innermost %W, if one is open and a word ended in it
abbrev first_file : List (Option (List Atom)) → List (List Atom)
first_file [] = []
first_file (last ∷ parts) = list_of last

-- the failure file at the end of the innermost %W is that of the first place
file_of_first : (parts : List (Option (List Atom))) (begun : Bool) (last : Option (List Atom)) → at_place parts zero ≡ part_at begun last
    → (if begun then list_of last else []) ≡ first_file parts
file_of_first [] true last e = absurd cc
file_of_first [] false last e = refl
file_of_first (p ∷ parts) true last e = let same : last ≡ p = cc in ap list_of same
file_of_first (p ∷ parts) false last e = absurd cc

-- the failure file at the end of the innermost %W, as the definition looks back for it, is that of the first open one
part_file : (before : List Atom) → (if has_begun zero before then list_of (last_in zero before) else []) ≡ first_file (open_parts before)
part_file before = file_of_first (open_parts before) (has_begun zero before) (last_in zero before) (parts_are zero before)

-- for any answers F of the system, and any C that a text is run for
module _ (F : Facts) (C : Context) where
  -- the files after are those before, and then the paths that were found for these words
  abbrev After : List (List Atom) → List (List ℕ) → List (List ℕ) → Type 0
  After found before after = (names : List (List ℕ)) × (each (path_of F C) found ≡ Is (Ok names)) × (after ≡ before ++ names)

  -- one more word, which was found as this path
  after_one : (word : List Atom) (found : List (List Atom)) (before after : List (List ℕ)) (name : List ℕ) → path_of F C word ≡ Is (Ok name)
      → After found (before ++ name ∷ []) after → After (word ∷ found) before after
  after_one word found before after name is (names, all, same) = (
    name ∷ names,
    ap (λ (a : Answer (List ℕ)). a >>- λ y. each (path_of F C) found >>- λ ys. Is (Ok (y ∷ ys))) is
        ∙ ap (λ (a : Answer (List (List ℕ))). a >>- λ ys. Is (Ok (name ∷ ys))) all,
    same ∙ append_assoc before (name ∷ []) names,
  )

  -- one more word if it is marked, which was found as this path
  after_if : (marked : Bool) (word : List Atom) (found : List (List Atom)) (before after : List (List ℕ)) (name : List ℕ)
      → path_of F C word ≡ Is (Ok name)
      → After found (before ++ (if marked then name ∷ [] else [])) after → After ((if marked then word ∷ [] else []) ++ found) before after
  after_if true word found before after name is rest = after_one word found before after name is rest
  after_if false word found before after name is rest = subst (λ (b : List (List ℕ)). After found b after) (append-nil before) rest

  -- for each open %W the last word that ended in it, as atoms and as the path that was found
  pub data Named : List (Option (List Atom)) → List (Option (List ℕ)) → Type 0 where
    no_part : Named [] []
    fresh : {parts : List (Option (List Atom))} {inside : List (Option (List ℕ))} → Named parts inside
        → Named (None ∷ parts) (None ∷ inside)
    named : {parts : List (Option (List Atom))} {inside : List (Option (List ℕ))} {word : List Atom} {name : List ℕ}
        → path_of F C word ≡ Is (Ok name) → Named parts inside → Named (Some word ∷ parts) (Some name ∷ inside)

  -- a word that ends is the last one in each open %W, as atoms and as its path
  all_named : {parts : List (Option (List Atom))} {inside : List (Option (List ℕ))} (word : List Atom) (name : List ℕ)
      → path_of F C word ≡ Is (Ok name) → Named parts inside
      → Named (map (λ before. Some word) parts) (map (λ before. Some name) inside)
  all_named word name is no_part = no_part
  all_named word name is (fresh rest) = named is (all_named word name is rest)
  all_named word name is (named e rest) = named is (all_named word name is rest)

  -- the cut after the end of a %W: its last word's path is a failure file, if a word ended in it
  abbrev Closed : List (Option (List Atom)) → Cut → Cut → Type 0
  Closed parts c d = Named (without_first parts) d.inside
      × ((found : List (List Atom)) (after : List (List ℕ)) → After found d.on_failure after
      → After (first_file parts ++ found) c.on_failure after)

  -- the end of a %W adds its last word's path to the failure files, if a word ended in it
  closes : {parts : List (Option (List Atom))} {inside : List (Option (List ℕ))} (c : Cut) → Named parts inside
      → Closed parts (record c { inside = inside }) (inside_done inside (record c { inside = inside }))
  closes c no_part = (no_part, λ found after rest. rest)
  closes c (fresh rest) = (rest, λ found after following. following)
  closes c (named {word = word} {name = name} is rest) =
      (rest, λ found after following. after_one word found c.on_failure after name is following)

  -- the failure files of the places from here on
  abbrev failures : List Atom → List Atom → List (List Atom)
  failures before atoms = flat_map failure_at (places_after before atoms)

  -- a cut with the same failure files and open %W as another goes on as that one does
  same_as : (c x d : Cut) (before atoms : List Atom) → x.on_failure ≡ c.on_failure → x.inside ≡ c.inside
      → (Named (open_parts before) x.inside → After (failures before atoms) x.on_failure d.on_failure) → Named (open_parts before) c.inside
      → After (failures before atoms) c.on_failure d.on_failure
  same_as c x d before atoms files inside goes st =
      subst (λ (b : List (List ℕ)). After (failures before atoms) b d.on_failure) files
      (goes (subst (λ (i : List (Option (List ℕ))). Named (open_parts before) i) (sym inside) st))

  -- a run without a word ends: it is no failure file, and no word of an open %W
  bare_ends : (run before : List Atom) (files after : List (List ℕ)) (inside : List (Option (List ℕ))) (found : List (List Atom))
      → run_before before ≡ run → list_any opens_word run ≡ false → Named (open_parts before) inside
      → (Named (ended_parts (is_word_before before) (run_before before) (open_parts before)) inside → After found files after)
      → After ((if is_word_before before && list_any is_output (run_before before) then run_before before ∷ [] else []) ++ found) files
      after
  bare_ends run before files after inside found e none st goes =
      let no_word : is_word_before before ≡ false = ap (λ (r : List Atom). list_any opens_word r) e ∙ none in
      let following = goes (subst (λ (b : Bool). Named (ended_parts b (run_before before) (open_parts before)) inside) (sym no_word) st) in
      subst (λ (b : Bool). After ((if b && list_any is_output (run_before before) then run_before before ∷ [] else []) ++ found) files
      after) (sym no_word) following

  -- a word that ends is a failure file if it is marked as an output, and is the last one for each open %W
  word_ends : (run before : List Atom) (files after : List (List ℕ)) (inside : List (Option (List ℕ))) (found : List (List Atom))
      (name : List ℕ) → run_before before ≡ run → list_any opens_word run ≡ true
      → path_of F C run ≡ Is (Ok name) → Named (open_parts before) inside
      → (Named (ended_parts (is_word_before before) (run_before before) (open_parts before)) (map (λ last. Some name) inside)
      → After found (files ++ (if list_any is_output run then name ∷ [] else [])) after)
      → After ((if is_word_before before && list_any is_output (run_before before) then run_before before ∷ [] else []) ++ found) files
      after
  word_ends run before files after inside found name e some is st goes =
      let word : is_word_before before ≡ true = ap (λ (r : List Atom). list_any opens_word r) e ∙ some in
      let following = goes (subst (λ (r : List Atom). Named (ended_parts (is_word_before before) r (open_parts before))
      (map (λ last. Some name) inside)) (sym e)
      (subst (λ (b : Bool). Named (ended_parts b run (open_parts before)) (map (λ last. Some name) inside)) (sym word)
      (all_named run name is st))) in
      subst (λ (r : List Atom). After ((if is_word_before before && list_any is_output r then r ∷ [] else []) ++ found) files after) (sym e)
      (subst (λ (b : Bool). After ((if b && list_any is_output run then run ∷ [] else []) ++ found) files after) (sym word)
      (after_if (list_any is_output run) run found files after name is following))

  -- the end of a %W adds its failure file before those of the atoms after it
  part_ends : (before atoms : List Atom) (c d : Cut) → Closed (open_parts before) c (inside_done c.inside c)
      → (Named (without_first (open_parts before)) (inside_done c.inside c).inside
      → After (failures (To ∷ before) atoms) (inside_done c.inside c).on_failure d.on_failure)
      → After ((if has_begun zero before then list_of (last_in zero before) else []) ++ failures (To ∷ before) atoms) c.on_failure
      d.on_failure
  part_ends before atoms c d (inner, ahead) goes =
      subst (λ (files : List (List Atom)). After (files ++ failures (To ∷ before) atoms) c.on_failure d.on_failure) (sym (part_file before))
      (ahead (failures (To ∷ before) atoms) d.on_failure (goes inner))

  -- the failure files of a cut grow by those of its atoms, over a `Course` from any run on
  pub failed_after : {run atoms : List Atom} {c d : Cut} → Course F C run c atoms d → (before : List Atom) → run_before before ≡ run
      → Named (open_parts before) c.inside → After (failures before atoms) c.on_failure d.on_failure
  failed_after (over {c = c}) before e st = ([], refl, sym (append-nil c.on_failure))
  failed_after (moves (Put b) n rest) before e st = failed_after rest (Put b ∷ before) (ap (λ (r : List Atom). r ++ Put b ∷ []) e) st
  failed_after (moves Open n rest) before e st = failed_after rest (Open ∷ before) (ap (λ (r : List Atom). r ++ Open ∷ []) e) st
  failed_after (moves Break n rest) before e st = absurd cc
  failed_after (moves {atoms = atoms} {c = c} {d = d} End n rest) before e st =
      same_as c (moved c End) d (End ∷ before) atoms (ap (λ (x : Cut). x.on_failure) (end_kept c)) (ap (λ (x : Cut). x.inside) (end_kept c))
      (failed_after rest (End ∷ before) (ap (λ (r : List Atom). r ++ End ∷ []) e)) st
  failed_after (moves Piped n rest) before e st = absurd cc
  failed_after (moves (Marked mark) n rest) before e st =
      failed_after rest (Marked mark ∷ before) (ap (λ (r : List Atom). r ++ Marked mark ∷ []) e) st
  failed_after (moves Without n rest) before e st = failed_after rest (Without ∷ before) (ap (λ (r : List Atom). r ++ Without ∷ []) e) st
  failed_after (moves From n rest) before e st = failed_after rest (From ∷ before) (ap (λ (r : List Atom). r ++ From ∷ []) e) (fresh st)
  failed_after (moves {atoms = atoms} {c = c} {d = d} To n rest) before e st =
      part_ends before atoms c d (closes c st) (failed_after rest (To ∷ before) (ap (λ (r : List Atom). r ++ To ∷ []) e))
  failed_after (moves FileFrom n rest) before e st = failed_after rest (FileFrom ∷ before) (ap (λ (r : List Atom). r ++ FileFrom ∷ []) e) st
  failed_after (moves {atoms = atoms} {c = c} {d = d} FileTo n rest) before e st =
      same_as c (moved c FileTo) d (FileTo ∷ before) atoms (ap (λ (x : Cut). x.on_failure) (file_kept c))
      (ap (λ (x : Cut). x.inside) (file_kept c)) (failed_after rest (FileTo ∷ before) (ap (λ (r : List Atom). r ++ FileTo ∷ []) e)) st
  failed_after (breaks_bare {run = run} {atoms = atoms} {c = c} {d = d} none rest) before e st =
      bare_ends run before c.on_failure d.on_failure c.inside (failures (Break ∷ before) atoms) e none st
      (failed_after rest (Break ∷ before) refl)
  failed_after (pipes_bare {run = run} {atoms = atoms} {c = c} {d = d} none rest) before e st =
      bare_ends run before c.on_failure d.on_failure c.inside (failures (Piped ∷ before) atoms) e none st
      (same_as (bare c) (pipe_ended (bare c)) d (Piped ∷ before) atoms (ap (λ (x : Cut). x.on_failure) (pipe_kept (bare c)))
      (ap (λ (x : Cut). x.inside) (pipe_kept (bare c))) (failed_after rest (Piped ∷ before) refl))
  failed_after (breaks {run = run} {atoms = atoms} {c = c} {d = d} name some is rest) before e st =
      word_ends run before c.on_failure d.on_failure c.inside (failures (Break ∷ before) atoms) name e some is st
      (failed_after rest (Break ∷ before) refl)
  failed_after (pipes {run = run} {atoms = atoms} {c = c} {d = d} name some is rest) before e st =
      let x = with_word c (opened_by run) name in
      word_ends run before c.on_failure d.on_failure c.inside (failures (Piped ∷ before) atoms) name e some is st
      (same_as x (pipe_ended x) d (Piped ∷ before) atoms (ap (λ (y : Cut). y.on_failure) (pipe_kept x))
      (ap (λ (y : Cut). y.inside) (pipe_kept x)) (failed_after rest (Piped ∷ before) refl))

  -- the failure files of a whole list that is cut
  pub failures_are : (atoms : List Atom) (c : Cut) → all_taken F C nothing_cut atoms ≡ Is (Ok c)
      → each (path_of F C) (failure_files atoms) ≡ Is (Ok c.on_failure)
  failures_are atoms c e = by (failed_after (course F C [] nothing_cut atoms c refl e) [] refl no_part)
    where
      by : After (failure_files atoms) [] c.on_failure → each (path_of F C) (failure_files atoms) ≡ Is (Ok c.on_failure)
      by (names, all, same) = all ∙ ap (λ (ns : List (List ℕ)). Is (Ok ns)) (sym same)
