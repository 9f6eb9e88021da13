use Rattle.drv_machine.proofs.Laws.{then_then}
use Rattle.drv_machine.proofs.Runs.{Course, bare, bare_ends, breaks, breaks_bare, broken_is, course, end_kept, ended, ended_as, file_kept}
use Rattle.drv_machine.proofs.Runs.{moved, moves, moves_on, name_of, open_in, opened_by, over, pipe_kept, pipes, pipes_bare, with_word}
use Rattle.drv_machine.proofs.Runs.{word_ends, words_moved}
use Rattle.drv_machine.specs.Context.{Context}
use Rattle.drv_machine.specs.Cuts.{Run, each, if_any, is_bar, is_barred, is_output, is_removed, is_removed_word, last_of, may_be_output}
use Rattle.drv_machine.specs.Cuts.{opens_word, output, path, removed, whether, words, words_after}
use Rattle.drv_machine.specs.Cutting.{Cut, all_taken, inside_done, nothing_cut, pipe_ended}
use Rattle.drv_machine.specs.Working.{◌>>-◌, Answer, Atom, Break, End, FileFrom, FileTo, From, Marked, Open, Piped, Put, To, Without}
use Rattle.drv_system.specs.Facts.{Facts}
use Rattle.drv_system.specs.Known.{Is, Unasked}
use Rattle.std.proofs.Common.{◌≡◌, ◌∙◌, ◌++◌, ◌||◌, Bool, List, [], ◌∷◌, None, Err, Ok, Option, Some, ap, append-nil, append_assoc, false}
use Rattle.std.proofs.Common.{refl, subst, sym, true, ℕ}
use Rattle.std.proofs.lemmas.List.Folds.{list_any-append}
use Rattle.std.specs.List.{filter, list_any}
use Rattle.std.specs.Prelude.{◌&&◌, if◌then◌else◌, not}

-- For cut_law: the output and the removed files of a list of atoms, and the look-up of its words. A run is the atoms between two ends of a
-- word; it is a word if it opens one. A `Course` (Runs) goes over the runs of a list that is cut to its end.
-- Names: `c`, `d`: what has been cut so far, before and after. `atoms`: what the text gives, from here on. `run`: the atoms since a word
-- ended. `found`: the runs of atoms that end in words. `F`: what is known of the outside. `C`: what the text is run for (switches, texts).
-- `a`: an answer: what is known, a refusal, or nothing yet. `b`: a test's value, so that `by` can go by both cases. `inside`: for each open
-- `%W` the last word that ended in it. `path`: what a word that ended is a path of. `words_after`: the words that end, where these atoms
-- precede, since a word ended. `whether`: that there is an answer, or what stops it. `is_bar`: the atom is a %V, which bars outputs that
-- began before it. `each`: answers for the items of a list. `last_of`: the last item of a list, if it has one. `opened_by`: what the atoms
-- of a run have opened. `moved`: what an atom that ends no word does to a cut. `all_taken`: atoms, one after another. `moves_on`: what is
-- open in the cut is what the run opens, also after one atom more. `w`: a run that is a word.

-- the end of a %W leaves the removed files
inside_removed : (c : Cut) (inside : List (Option (List ℕ))) → (inside_done inside c).removed ≡ c.removed
inside_removed c [] = refl
inside_removed c (None ∷ outer) = refl
inside_removed c (Some last ∷ outer) = refl

-- the end of a %W leaves the output
inside_output : (c : Cut) (inside : List (Option (List ℕ))) → (inside_done inside c).output ≡ c.output
inside_output c [] = refl
inside_output c (None ∷ outer) = refl
inside_output c (Some last ∷ outer) = refl

-- an atom that ends no word leaves the removed files
moved_removed : (c : Cut) (atom : Atom) → (moved c atom).removed ≡ c.removed
moved_removed c (Put b) = refl
moved_removed c Open = refl
moved_removed c Break = refl
moved_removed c End = ap (λ (x : Cut). x.removed) (end_kept c)
moved_removed c Piped = refl
moved_removed c (Marked mark) = refl
moved_removed c Without = refl
moved_removed c From = refl
moved_removed c To = inside_removed c c.inside
moved_removed c FileFrom = refl
moved_removed c FileTo = ap (λ (x : Cut). x.removed) (file_kept c)

-- none where a %V bars it, or else this word
abbrev unless : Bool → Option (List ℕ) → Option (List ℕ)
unless bar before = if bar then None else before

-- without a word there is no output, whether a %V bars or not
unless_none : (bar : Bool) → unless bar None ≡ None
unless_none true = refl
unless_none false = refl

-- an atom that ends no word leaves the output, or takes it away if it is a %V
moved_output : (c : Cut) (atom : Atom) (bar : Bool) → unless bar (moved c atom).output ≡ unless (is_bar atom || bar) c.output
moved_output c (Put b) bar = refl
moved_output c Open bar = refl
moved_output c Break bar = refl
moved_output c End bar = ap (λ (x : Cut). unless bar x.output) (end_kept c)
moved_output c Piped bar = refl
moved_output c (Marked mark) bar = refl
moved_output c Without true = refl
moved_output c Without false = refl
moved_output c From bar = refl
moved_output c To bar = ap (unless bar) (inside_output c c.inside)
moved_output c FileFrom bar = refl
moved_output c FileTo bar = ap (λ (x : Cut). unless bar x.output) (file_kept c)

-- a word is barred by a %V in it after its beginning, or by one after it
barred_or_after : (run atoms : List Atom) → list_any opens_word run ≡ true
    → is_barred (run ++ atoms) ≡ (is_barred run || list_any is_bar atoms)
barred_or_after [] atoms e = absurd cc
barred_or_after (x ∷ run) atoms e = by (opens_word x) refl e (barred_or_after run atoms)
  where
    by : (b : Bool) → opens_word x ≡ b → (b || list_any opens_word run) ≡ true
        → (list_any opens_word run ≡ true → is_barred (run ++ atoms) ≡ (is_barred run || list_any is_bar atoms))
        → (if b then list_any is_bar (run ++ atoms) else is_barred (run ++ atoms))
        ≡ ((if b then list_any is_bar run else is_barred run) || list_any is_bar atoms)
    by true is some next = list_any-append is_bar run atoms
    by false is some next = next some

-- for any answers F of the system, and any C that a text is run for
module _ (F : Facts) (C : Context) where
  -- the files after are those before, and then the paths that were found for these words
  abbrev After : List Run → List (List ℕ) → List (List ℕ) → Type 0
  After found before after = (names : List (List ℕ)) × (each (path F C) found ≡ Is (Ok names)) × (after ≡ before ++ names)

  -- without words the files are those before
  after_none : (before : List (List ℕ)) → After [] before before
  after_none before = ([], refl, sym (append-nil before))

  -- one more word that is found as this path
  after_more : (w : Run) (found : List Run) (before after : List (List ℕ)) (name : List ℕ) → path F C w ≡ Is (Ok name)
      → After found (before ++ name ∷ []) after → After (w ∷ found) before after
  after_more w found before after name is (names, all, same) = (
    name ∷ names,
    ap (λ (a : Answer (List ℕ)). a >>- λ y. each (path F C) found >>- λ ys. Is (Ok (y ∷ ys))) is
        ∙ ap (λ (a : Answer (List (List ℕ))). a >>- λ ys. Is (Ok (name ∷ ys))) all,
    same ∙ append_assoc before (name ∷ []) names,
  )

  -- one more word that counts only if it is marked, and is found as this path
  after_if : (marked : Bool) (w : Run) (found : List Run) (before after : List (List ℕ)) (name : List ℕ) → path F C w ≡ Is (Ok name)
      → After found (before ++ (if marked then name ∷ [] else [])) after → After (if marked then w ∷ found else found) before after
  after_if true w found before after name is following = after_more w found before after name is following
  after_if false w found before after name is following = subst (λ (b : List (List ℕ)). After found b after) (append-nil before) following

  -- of these words those that are marked as removed
  abbrev marked_removed : List Run → List Run
  marked_removed found = filter is_removed_word found

  -- the removed files of a cut grow by the words that are marked so, over a `Course` from any run on
  pub removed_after : {run atoms : List Atom} {c d : Cut} → Course F C run c atoms d
      → After (marked_removed (words_after run atoms)) c.removed d.removed
  removed_after (over {c = c}) = after_none c.removed
  removed_after (moves {run = run} {atoms = atoms} {c = c} {d = d} atom e rest) =
      subst (λ (found : List Run). After (marked_removed found) c.removed d.removed) (sym (words_moved run atoms atom e))
      (subst (λ (b : List (List ℕ)). After (marked_removed (words_after (run ++ atom ∷ []) atoms)) b d.removed) (moved_removed c atom)
      (removed_after rest))
  removed_after (breaks_bare {run = run} {atoms = atoms} {c = c} {d = d} e rest) =
      subst (λ (found : List Run). After (marked_removed found) c.removed d.removed) (sym (bare_ends run atoms e)) (removed_after rest)
  removed_after (pipes_bare {run = run} {atoms = atoms} {c = c} {d = d} e rest) =
      subst (λ (found : List Run). After (marked_removed found) c.removed d.removed) (sym (bare_ends run atoms e))
      (subst (λ (b : List (List ℕ)). After (marked_removed (words_after [] atoms)) b d.removed)
      (ap (λ (x : Cut). x.removed) (pipe_kept (bare c))) (removed_after rest))
  removed_after (breaks {run = run} {atoms = atoms} {c = c} {d = d} name e is rest) =
      subst (λ (found : List Run). After (marked_removed found) c.removed d.removed) (sym (word_ends run atoms e))
      (after_if (list_any is_removed run) (record { atoms = run; following = atoms })
      (marked_removed (words_after [] atoms)) c.removed d.removed name is (removed_after rest))
  removed_after (pipes {run = run} {atoms = atoms} {c = c} {d = d} name e is rest) =
      subst (λ (found : List Run). After (marked_removed found) c.removed d.removed) (sym (word_ends run atoms e))
      (after_if (list_any is_removed run) (record { atoms = run; following = atoms })
      (marked_removed (words_after [] atoms)) c.removed d.removed name is
      (subst (λ (b : List (List ℕ)). After (marked_removed (words_after [] atoms)) b d.removed)
      (ap (λ (x : Cut). x.removed) (pipe_kept (with_word c (opened_by run) name))) (removed_after rest)))

  -- the path of the last of these words, or else the output before
  abbrev or_before : Option Run → Option (List ℕ) → Answer (Option (List ℕ))
  or_before None before = Is (Ok before)
  or_before (Some w) before = path F C w >>- λ name. Is (Ok (Some name))

  -- without a word the output is that before, whether a %V bars or not
  or_none : (o : Option Run) (bar : Bool) → or_before o (unless bar None) ≡ if_any (path F C) o
  or_none None bar = ap (λ (n : Option (List ℕ)). Is (Ok n)) (unless_none bar)
  or_none (Some w) bar = refl

  -- one more word before the others: it is the output if it is marked, begins after the last %V, and no later word is one
  last_more : (o barred bar : Bool) (w : Run) (found : List Run) (before : Option (List ℕ)) (name : List ℕ) → path F C w ≡ Is (Ok name)
      → or_before (last_of (if o && not (barred || bar) then w ∷ found else found)) (unless bar before)
      ≡ or_before (last_of found) (unless bar (if o && not barred then Some name else before))
  last_more false barred bar w found before name is = refl
  last_more true true bar w found before name is = refl
  last_more true false true w found before name is = refl
  last_more true false false w found before name is = by (last_of found) refl
    where
      by : (later : Option Run) → last_of found ≡ later → or_before (last_of (w ∷ found)) before ≡ or_before (last_of found) (Some name)
      by None e = rw e (ap (λ (a : Answer (List ℕ)). a >>- λ n. Is (Ok (Some n))) is)
      by (Some later) e = rw e refl

  -- of these words those that may be the output
  abbrev outputs : List Run → List Run
  outputs found = filter may_be_output found

  -- a break ends a word, which may be the output
  word_last : (run atoms : List Atom) (c : Cut) (name : List ℕ) → list_any opens_word run ≡ true
      → path F C (record { atoms = run; following = atoms }) ≡ Is (Ok name)
      → or_before (last_of (outputs (words_after run (Break ∷ atoms)))) (unless (list_any is_bar atoms) c.output)
      ≡ or_before (last_of (outputs (words_after [] atoms))) (unless (list_any is_bar atoms) (with_word c (opened_by run) name).output)
  word_last run atoms c name e is =
      ap (λ (found : List Run). or_before (last_of (outputs found)) (unless (list_any is_bar atoms) c.output)) (word_ends run atoms e)
      ∙ ap (λ (b : Bool). or_before (last_of (if list_any is_output run && not b
      then record { atoms = run; following = atoms } ∷ outputs (words_after [] atoms) else outputs (words_after [] atoms)))
      (unless (list_any is_bar atoms) c.output)) (barred_or_after run atoms e)
      ∙ last_more (list_any is_output run) (is_barred run) (list_any is_bar atoms) (record { atoms = run; following = atoms })
      (outputs (words_after [] atoms)) c.output name is

  -- the output of a cut is the last word that may be one, or what it was before where no %V follows
  pub output_after : {run atoms : List Atom} {c d : Cut} → Course F C run c atoms d
      → or_before (last_of (outputs (words_after run atoms))) (unless (list_any is_bar atoms) c.output) ≡ Is (Ok d.output)
  output_after over = refl
  output_after (moves {run = run} {atoms = atoms} {c = c} {d = d} atom e rest) =
      ap (λ (found : List Run). or_before (last_of (outputs found)) (unless (is_bar atom || list_any is_bar atoms) c.output))
      (words_moved run atoms atom e)
      ∙ ap (or_before (last_of (outputs (words_after (run ++ atom ∷ []) atoms)))) (sym (moved_output c atom (list_any is_bar atoms)))
      ∙ output_after rest
  output_after (breaks_bare {run = run} {atoms = atoms} {c = c} {d = d} e rest) =
      ap (λ (found : List Run). or_before (last_of (outputs found)) (unless (list_any is_bar atoms) c.output)) (bare_ends run atoms e)
      ∙ output_after rest
  output_after (pipes_bare {run = run} {atoms = atoms} {c = c} {d = d} e rest) =
      ap (λ (found : List Run). or_before (last_of (outputs found)) (unless (list_any is_bar atoms) c.output)) (bare_ends run atoms e)
      ∙ ap (λ (x : Cut). or_before (last_of (outputs (words_after [] atoms))) (unless (list_any is_bar atoms) x.output))
      (sym (pipe_kept (bare c))) ∙ output_after rest
  output_after (breaks {run = run} {atoms = atoms} {c = c} {d = d} name e is rest) = word_last run atoms c name e is ∙ output_after rest
  output_after (pipes {run = run} {atoms = atoms} {c = c} {d = d} name e is rest) =
      word_last run atoms c name e is
      ∙ ap (λ (x : Cut). or_before (last_of (outputs (words_after [] atoms))) (unless (list_any is_bar atoms) x.output))
      (sym (pipe_kept (with_word c (opened_by run) name))) ∙ output_after rest

  -- a value made of an answer is there exactly if the answer is
  whether_then : {X Y : Type 0} (a : Answer X) (f : X → Y) → whether (a >>- λ x. Is (Ok (f x))) ≡ whether a
  whether_then a f = then_then a (λ x. Is (Ok (f x))) (λ y. Is (Ok tt))

  -- at the end of a run a cut goes on, or stops, as the look-up of the run's path, where it is a word, and of the words after it does; `k`
  -- is what a pipe does after the break
  run_ends : (run atoms : List Atom) (c : Cut) (k : Cut → Cut)
      → ((n : List ℕ) → whether (all_taken F C (k (with_word c (opened_by run) n)) atoms)
      ≡ whether (each (path F C) (words_after [] atoms)))
      → whether (all_taken F C (k (bare c)) atoms) ≡ whether (each (path F C) (words_after [] atoms))
      → whether ((ended F C c (opened_by run) >>- λ x. Is (Ok (k x))) >>- λ x. all_taken F C x atoms)
      ≡ whether (each (path F C) (words_after run (Break ∷ atoms)))
  run_ends run atoms c k full empty = by (list_any opens_word run) (name_of F C (opened_by run)) refl refl
    where
      -- Plan: by whether the run is a word, and then by whether its name is known.
      w : Run
      w = record { atoms = run; following = atoms }

      by : (begun : Bool) (name : Answer (List ℕ)) → list_any opens_word run ≡ begun → name_of F C (opened_by run) ≡ name
          → whether ((ended_as F C c (opened_by run) begun name >>- λ x. Is (Ok (k x))) >>- λ x. all_taken F C x atoms)
          ≡ whether (each (path F C) (words_after run (Break ∷ atoms)))
      by false name b n = empty ∙ ap (λ (found : List Run). whether (each (path F C) found)) (sym (bare_ends run atoms b))
      by true (Is (Ok name)) b n =
          full name ∙ sym (ap (λ (found : List Run). whether (each (path F C) found)) (word_ends run atoms b)
          ∙ ap (λ (a : Answer (List ℕ)). whether (a >>- λ y. each (path F C) (words_after [] atoms) >>- λ ys. Is (Ok (y ∷ ys)))) n
          ∙ whether_then (each (path F C) (words_after [] atoms)) (λ ys. name ∷ ys))
      by true (Is (Err fault)) b n =
          sym (ap (λ (found : List Run). whether (each (path F C) found)) (word_ends run atoms b)
          ∙ ap (λ (a : Answer (List ℕ)). whether (a >>- λ y. each (path F C) (words_after [] atoms) >>- λ ys. Is (Ok (y ∷ ys)))) n)
      by true Unasked b n =
          sym (ap (λ (found : List Run). whether (each (path F C) found)) (word_ends run atoms b)
          ∙ ap (λ (a : Answer (List ℕ)). whether (a >>- λ y. each (path F C) (words_after [] atoms) >>- λ ys. Is (Ok (y ∷ ys)))) n)

  -- a cut goes to its end, or stops by a refusal or for lack of an answer, as the look-up of its words in their order does: nothing but the
  -- end of a word stops it
  pub found_alike : (run : List Atom) (c : Cut) (atoms : List Atom) → open_in c ≡ opened_by run
      → whether (all_taken F C c atoms) ≡ whether (each (path F C) (words_after run atoms))
  found_alike run c [] e = refl
  found_alike run c (Break ∷ atoms) e =
      ap (λ (a : Answer Cut). whether (a >>- λ x. all_taken F C x atoms))
      (broken_is F C c ∙ ap (ended F C c) e ∙ sym (then_ok (ended F C c (opened_by run))))
      ∙ run_ends run atoms c (λ x. x) (λ n. found_alike [] (with_word c (opened_by run) n) atoms refl) (found_alike [] (bare c) atoms refl)
    where
      then_ok : (a : Answer Cut) → (a >>- λ x. Is (Ok x)) ≡ a
      then_ok (Is (Ok x)) = refl
      then_ok (Is (Err fault)) = refl
      then_ok Unasked = refl
  found_alike run c (Piped ∷ atoms) e =
      ap (λ (a : Answer Cut). whether ((a >>- λ x. Is (Ok (pipe_ended x))) >>- λ x. all_taken F C x atoms))
      (broken_is F C c ∙ ap (ended F C c) e)
      ∙ run_ends run atoms c pipe_ended (λ n. found_alike [] (pipe_ended (with_word c (opened_by run) n)) atoms
      (ap open_in (pipe_kept (with_word c (opened_by run) n))))
      (found_alike [] (pipe_ended (bare c)) atoms (ap open_in (pipe_kept (bare c))))
  found_alike run c (Put b ∷ atoms) e = found_alike (run ++ (Put b) ∷ []) (moved c (Put b)) atoms (moves_on c run (Put b) refl e)
  found_alike run c (Open ∷ atoms) e = found_alike (run ++ Open ∷ []) (moved c Open) atoms (moves_on c run Open refl e)
  found_alike run c (End ∷ atoms) e = found_alike (run ++ End ∷ []) (moved c End) atoms (moves_on c run End refl e)
  found_alike run c (Marked mark ∷ atoms) e = found_alike (run ++ (Marked mark) ∷ []) (moved c (Marked mark)) atoms
      (moves_on c run (Marked mark) refl e)
  found_alike run c (Without ∷ atoms) e = found_alike (run ++ Without ∷ []) (moved c Without) atoms (moves_on c run Without refl e)
  found_alike run c (From ∷ atoms) e = found_alike (run ++ From ∷ []) (moved c From) atoms (moves_on c run From refl e)
  found_alike run c (To ∷ atoms) e = found_alike (run ++ To ∷ []) (moved c To) atoms (moves_on c run To refl e)
  found_alike run c (FileFrom ∷ atoms) e = found_alike (run ++ FileFrom ∷ []) (moved c FileFrom) atoms (moves_on c run FileFrom refl e)
  found_alike run c (FileTo ∷ atoms) e = found_alike (run ++ FileTo ∷ []) (moved c FileTo) atoms (moves_on c run FileTo refl e)

  -- a list is cut to its end from nothing, or stops, as the look-up of its words does
  pub each_found : (atoms : List Atom) → whether (all_taken F C nothing_cut atoms) ≡ whether (each (path F C) (words atoms))
  each_found atoms = found_alike [] nothing_cut atoms refl

  -- the output of a list that is cut is that of the definition
  pub output_is : (atoms : List Atom) (c : Cut) → all_taken F C nothing_cut atoms ≡ Is (Ok c)
      → if_any (path F C) (output atoms) ≡ Is (Ok c.output)
  output_is atoms c e = sym (or_none (output atoms) (list_any is_bar atoms)) ∙ output_after (course F C [] nothing_cut atoms c refl e)

  -- the removed files of a list that is cut are those of the definition
  pub removed_are : (atoms : List Atom) (c : Cut) → all_taken F C nothing_cut atoms ≡ Is (Ok c)
      → each (path F C) (removed atoms) ≡ Is (Ok c.removed)
  removed_are atoms c e = by (removed_after (course F C [] nothing_cut atoms c refl e))
    where
      by : After (removed atoms) [] c.removed → each (path F C) (removed atoms) ≡ Is (Ok c.removed)
      by (names, all, same) = all ∙ ap (λ (ns : List (List ℕ)). Is (Ok ns)) (sym same)
