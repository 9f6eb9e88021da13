use Rattle.drv_machine.specs.Context.{Context}
use Rattle.drv_machine.specs.Cuts.{byte_of, ends_word, is_bar, is_barred, is_file, is_output, is_removed, is_script, opens_word, path}
use Rattle.drv_machine.specs.Cuts.{words_after}
use Rattle.drv_machine.specs.Cutting.{Cut, CutLine, all_taken, broken, file_begun, file_done, found_file, found_script, in_word}
use Rattle.drv_machine.specs.Cutting.{inside_done, line_ended, marked, no_line, no_marks, pipe_done, pipe_ended, script_option, touched}
use Rattle.drv_machine.specs.Working.{◌>>-◌, Answer, Atom, Break, End, FileFrom, FileTo, From, Marked, Open, Piped, Put, To, Without}
use Rattle.drv_machine.specs.declared.fault.MachineFault.{MachineFault}
use Rattle.drv_machine.specs.declared.machine.marking.Mark.TheVariants.{AsFile, AsOutput, AsRemoved, AsScript}
use Rattle.drv_system.specs.Facts.{Facts}
use Rattle.drv_system.specs.Known.{Is, Unasked}
use Rattle.std.proofs.Common.{◌≡◌, ◌∙◌, ◌++◌, ◌||◌, Bool, List, [], ◌∷◌, None, Err, Ok, Option, Some, ap, append-nil, false, refl, subst}
use Rattle.std.proofs.Common.{sym, true, ℕ}
use Rattle.std.specs.List.{flat_map, list_any}
use Rattle.std.specs.Option.{unwrap_or}
use Rattle.std.proofs.lemmas.Grind.{flat_map-append}
use Rattle.std.specs.Prelude.{◌&&◌, if◌then◌else◌, is_some, map, not}

-- For the laws of the cut (CutRuns, CutLines, CutFailures, CutFiles): how a cut goes over the runs of a list of atoms. A run is the atoms
-- between two ends of a word (a break or a pipe); it is a word if it opens one. `Course` is the induction that those files share: one case
-- for an atom in a run, and one for each kind of end.
-- Names: `c`, `d`: what has been cut so far, before and after. `run`: the atoms since a word ended. `atoms`: what the text gives, from here
-- on. `a`, `b`: a test's value, so that `by` can go by both cases. `F`: what is known of the outside. `C`: what the text is run for
-- (switches, texts). `outer`: the command around the file of a `%@`, if one is open. `X`: any type. `a`: an answer: what is known, a
-- refusal, or nothing yet. `opens_word`: the atom opens a word, if none is open. `byte_of`: the byte that an atom puts into a word, if it
-- puts one. `pipe_ended`: where words go to a file, no command ends with a pipe. `is_bar`: the atom is a %V, which bars outputs that began
-- before it. `all_taken`: atoms, one after another. `is_barred`: a %V follows the beginning of the word. `words_after`: the words that end,
-- where these atoms precede, since a word ended. `ends_word`: the atom ends the word that is open.

-- what is open after the atoms of a run: whether a word is, its bytes and marks, and whether a %V bars it
pub record Opened : Type 0 where
  pub begun : Bool
  pub bytes : List ℕ
  pub removed : Bool
  pub output : Bool
  pub file : Bool
  pub script : Bool
  pub barred : Bool

-- what the atoms of a run have opened
abbrev pub opened_by : List Atom → Opened
opened_by run = record {
  begun = list_any opens_word run;
  bytes = flat_map byte_of run;
  removed = list_any is_removed run;
  output = list_any is_output run;
  file = list_any is_file run;
  script = list_any is_script run;
  barred = is_barred run;
}

-- what is open in a cut: the word's bytes, its marks, and whether a %V bars it
abbrev pub open_in : Cut → Opened
open_in c = record {
  begun = is_some c.word;
  bytes = unwrap_or c.word [];
  removed = c.marks.removed;
  output = c.marks.output;
  file = c.marks.file;
  script = c.marks.script;
  barred = c.barred;
}

-- the bytes of an open word with one atom more
abbrev with_byte : List ℕ → Atom → List ℕ
with_byte bytes (Put b) = bytes ++ b ∷ []
with_byte bytes atom = bytes

-- what is open after one atom more, which ends no word
abbrev further : Opened → Atom → Opened
further o atom = record {
  begun = opens_word atom || o.begun;
  bytes = with_byte o.bytes atom;
  removed = is_removed atom || o.removed;
  output = is_output atom || o.output;
  file = is_file atom || o.file;
  script = is_script atom || o.script;
  barred = if is_bar atom then o.begun else o.barred;
}

-- of three sides of an `or` the first two may change places
around : (a b c : Bool) → (a || (b || c)) ≡ (b || (a || c))
around true true c = refl
around true false c = refl
around false b c = refl

-- whether any of a list with one more has a property
pub any_after : {X : Type 0} (p : X → Bool) (xs : List X) (x : X) → list_any p (xs ++ x ∷ []) ≡ (p x || list_any p xs)
any_after p [] x = refl
any_after p (y ∷ ys) x = ap (λ b. p y || b) (any_after p ys x) ∙ around (p y) (p x) (list_any p ys)

-- the bytes of a run with one atom more
bytes_after : (run : List Atom) (atom : Atom) → flat_map byte_of (run ++ atom ∷ []) ≡ with_byte (flat_map byte_of run) atom
bytes_after run atom = flat_map-append byte_of run (atom ∷ []) ∙ by atom
  where
    -- Plan: by the atom: only a byte adds one.
    by : (a : Atom) → flat_map byte_of run ++ (byte_of a ++ []) ≡ with_byte (flat_map byte_of run) a
    by (Put b) = refl
    by Open = append-nil (flat_map byte_of run)
    by Break = append-nil (flat_map byte_of run)
    by End = append-nil (flat_map byte_of run)
    by Piped = append-nil (flat_map byte_of run)
    by (Marked mark) = append-nil (flat_map byte_of run)
    by Without = append-nil (flat_map byte_of run)
    by From = append-nil (flat_map byte_of run)
    by To = append-nil (flat_map byte_of run)
    by FileFrom = append-nil (flat_map byte_of run)
    by FileTo = append-nil (flat_map byte_of run)

-- two branches with one value give that value, whatever is asked
same_either_way : {X : Type 0} (b : Bool) (x : X) → (if b then x else x) ≡ x
same_either_way true x = refl
same_either_way false x = refl

-- an `or` as a branch: it is true if the first side is, or else what the second is
yes_either_way : (b c : Bool) → (b || c) ≡ (if b then true else c)
yes_either_way true c = refl
yes_either_way false c = refl

-- a run with one atom more is barred by a %V after its word began
barred_after : (run : List Atom) (atom : Atom) → is_barred (run ++ atom ∷ [])
    ≡ (if is_bar atom then list_any opens_word run else is_barred run)
barred_after [] atom = same_either_way (opens_word atom) false ∙ sym (same_either_way (is_bar atom) false)
barred_after (x ∷ run) atom = by (opens_word x) (barred_after run atom)
  where
    by : (b : Bool) → is_barred (run ++ atom ∷ []) ≡ (if is_bar atom then list_any opens_word run else is_barred run)
        → (if b then list_any is_bar (run ++ atom ∷ []) else is_barred (run ++ atom ∷ []))
        ≡ (if is_bar atom then b || list_any opens_word run else (if b then list_any is_bar run else is_barred run))
    by true e = any_after is_bar run atom ∙ yes_either_way (is_bar atom) (list_any is_bar run)
    by false e = e

-- `opened_by` of a run with one atom more
opened_further : (run : List Atom) (atom : Atom) → opened_by (run ++ atom ∷ []) ≡ further (opened_by run) atom
opened_further run atom =
    rw (
      any_after opens_word run atom,
      bytes_after run atom,
      any_after is_removed run atom,
      any_after is_output run atom,
      any_after is_file run atom,
      any_after is_script run atom,
      barred_after run atom,
    ) refl

-- what an atom that ends no word does to a cut
abbrev pub moved : Cut → Atom → Cut
moved c (Put b) = in_word c (b ∷ [])
moved c Open = in_word c []
moved c Break = c
moved c End = line_ended c
moved c Piped = c
moved c (Marked mark) = record (touched c) { marks = marked mark c.marks }
moved c Without = record c { output = None; barred = is_some c.word }
moved c From = record c { inside = None ∷ c.inside }
moved c To = inside_done c.inside c
moved c FileFrom = file_begun c
moved c FileTo = file_done c

-- a cut without its commands: what is left unchanged by the ends of commands, pipes and files
abbrev pub unlined : Cut → Cut
unlined c = record c { line = no_line; lines = []; stray = false; outer = None }

-- the end of a command leaves all else of a cut as it was, in a file or not
line_unlined : (c : Cut) (outer : Option CutLine) → unlined (line_ended (record c { outer = outer })) ≡ unlined c
line_unlined c None = refl
line_unlined c (Some line) = refl

-- a pipe after these words changes only the commands
pipe_done_unlined : (c : Cut) (words : List (List ℕ))
    → unlined (pipe_done (record c { line = record { words = words; piped = c.line.piped } })) ≡ unlined c
pipe_done_unlined c [] = refl
pipe_done_unlined c (w ∷ ws) = refl

-- a pipe leaves all else of a cut as it was, in a file or not
pipe_unlined : (c : Cut) (outer : Option CutLine) → unlined (pipe_ended (record c { outer = outer })) ≡ unlined c
pipe_unlined c None = pipe_done_unlined (record c { outer = None }) c.line.words
pipe_unlined c (Some line) = refl

-- a pipe changes only the commands of a cut
pub pipe_kept : (c : Cut) → unlined (pipe_ended c) ≡ unlined c
pipe_kept c = pipe_unlined c c.outer

-- the end of a command changes only the commands of a cut
pub end_kept : (c : Cut) → unlined (line_ended c) ≡ unlined c
end_kept c = line_unlined c c.outer

-- the end of a file leaves all else of a cut as it was, if one is open
file_unlined : (c : Cut) (outer : Option CutLine) → unlined (file_done (record c { outer = outer })) ≡ unlined c
file_unlined c None = refl
file_unlined c (Some line) = refl

-- the end of a file changes only the commands of a cut
pub file_kept : (c : Cut) → unlined (file_done c) ≡ unlined c
file_kept c = file_unlined c c.outer

-- the end of a %W opens and closes no word
inside_opens : (c : Cut) (inside : List (Option (List ℕ))) → open_in (inside_done inside c) ≡ open_in c
inside_opens c [] = refl
inside_opens c (None ∷ outer) = refl
inside_opens c (Some last ∷ outer) = refl

-- an atom that ends no word changes what is open in a cut as `further` says
moved_further : (c : Cut) (atom : Atom) → ends_word atom ≡ false → open_in (moved c atom) ≡ further (open_in c) atom
moved_further c (Put b) e = refl
moved_further c Open e = ap (λ bytes. record (open_in c) { begun = true; bytes = bytes }) (append-nil (unwrap_or c.word []))
moved_further c Break e = absurd cc
moved_further c End e = ap open_in (end_kept c)
moved_further c Piped e = absurd cc
moved_further c (Marked AsRemoved) e = refl
moved_further c (Marked AsOutput) e = refl
moved_further c (Marked AsFile) e = refl
moved_further c (Marked AsScript) e = refl
moved_further c Without e = refl
moved_further c From e = refl
moved_further c To e = inside_opens c c.inside
moved_further c FileFrom e = refl
moved_further c FileTo e = ap open_in (file_kept c)

-- the cut after a run that is no word
abbrev pub bare : Cut → Cut
bare c = record c { word = None; marks = no_marks; barred = false }

-- the cut after a run that is a word, which was found as this path
abbrev pub with_word : Cut → Opened → List ℕ → Cut
with_word c o name = record c {
  word = None;
  marks = no_marks;
  barred = false;
  line = record { words = c.line.words ++ (if o.script then script_option ∷ name ∷ [] else name ∷ []); piped = c.line.piped };
  removed = c.removed ++ (if o.removed then name ∷ [] else []);
  on_failure = c.on_failure ++ (if o.output then name ∷ [] else []);
  output = if o.output && not o.barred then Some name else c.output;
  inside = map (λ before. Some name) c.inside;
}

-- the words of a list whose first atom continues the run
pub words_moved : (run atoms : List Atom) (atom : Atom) → ends_word atom ≡ false
    → words_after run (atom ∷ atoms) ≡ words_after (run ++ atom ∷ []) atoms
words_moved run atoms atom e = rw e refl

-- a break ends a run that is no word: the words are those of the list after it
pub bare_ends : (run atoms : List Atom) → list_any opens_word run ≡ false → words_after run (Break ∷ atoms) ≡ words_after [] atoms
bare_ends run atoms e = rw e refl

-- a break ends a run that is a word: the words are that run, and those of the list after it
pub word_ends : (run atoms : List Atom) → list_any opens_word run ≡ true
    → words_after run (Break ∷ atoms) ≡ record { atoms = run; following = atoms } ∷ words_after [] atoms
word_ends run atoms e = rw e refl

-- for any answers F of the system, and any C that a text is run for
module _ (F : Facts) (C : Context) where
  -- the path of a word that is open, by its marks
  abbrev pub name_of : Opened → Answer (List ℕ)
  name_of o = if o.script then found_script F C o.bytes else if o.file then found_file F C o.bytes else Is (Ok o.bytes)

  -- the cut after a run: `begun` says whether it is a word
  abbrev pub ended_as : Cut → Opened → Bool → Answer (List ℕ) → Answer Cut
  ended_as c o true name = name >>- λ n. Is (Ok (with_word c o n))
  ended_as c o false name = Is (Ok (bare c))

  -- the cut after a run that has opened this
  abbrev pub ended : Cut → Opened → Answer Cut
  ended c o = ended_as c o o.begun (name_of o)

  -- the end of a word, by the marks that look a path up
  broken_as : (c : Cut) (word : Option (List ℕ)) (script file : Bool)
      → broken F C (record c { word = word; marks = record c.marks { script = script; file = file } })
      ≡ ended c (open_in (record c { word = word; marks = record c.marks { script = script; file = file } }))
  broken_as c None script file = refl
  broken_as c (Some word) true file = refl
  broken_as c (Some word) false true = refl
  broken_as c (Some word) false false = refl

  -- a break is the end of the run that is open
  pub broken_is : (c : Cut) → broken F C c ≡ ended c (open_in c)
  broken_is c = broken_as c c.word c.marks.script c.marks.file

-- what is open in the cut is what the run opens, also after one atom more
pub moves_on : (c : Cut) (run : List Atom) (atom : Atom) → ends_word atom ≡ false → open_in c ≡ opened_by run
    → open_in (moved c atom) ≡ opened_by (run ++ atom ∷ [])
moves_on c run atom ends e = moved_further c atom ends ∙ ap (λ o. further o atom) e ∙ sym (opened_further run atom)

-- A list of atoms that is cut to its end, run by run: the run so far and the cut, the atoms left, and the cut at the end.
pub data Course (F : Facts) (C : Context) : List Atom → Cut → List Atom → Cut → Type 0 where
  over : {run : List Atom} {c : Cut} → Course F C run c [] c
  moves : {run atoms : List Atom} {c d : Cut} (atom : Atom) → ends_word atom ≡ false → Course F C (run ++ atom ∷ []) (moved c atom) atoms d
      → Course F C run c (atom ∷ atoms) d
  breaks_bare : {run atoms : List Atom} {c d : Cut} → list_any opens_word run ≡ false → Course F C [] (bare c) atoms d
      → Course F C run c (Break ∷ atoms) d
  pipes_bare : {run atoms : List Atom} {c d : Cut} → list_any opens_word run ≡ false → Course F C [] (pipe_ended (bare c)) atoms d
      → Course F C run c (Piped ∷ atoms) d
  breaks : {run atoms : List Atom} {c d : Cut} (name : List ℕ) → list_any opens_word run ≡ true
      → path F C (record { atoms = run; following = atoms }) ≡ Is (Ok name)
      → Course F C [] (with_word c (opened_by run) name) atoms d → Course F C run c (Break ∷ atoms) d
  pipes : {run atoms : List Atom} {c d : Cut} (name : List ℕ) → list_any opens_word run ≡ true
      → path F C (record { atoms = run; following = atoms }) ≡ Is (Ok name)
      → Course F C [] (pipe_ended (with_word c (opened_by run) name)) atoms d → Course F C run c (Piped ∷ atoms) d

-- for any answers F of the system, and any C that a text is run for
module _ (F : Facts) (C : Context) where
  -- a cut that is refused doesn't go to its end: so this case needs no proof
  refused : {X : Type 0} (a : Answer Cut) (d : Cut) (fault : MachineFault) → a ≡ Is (Err fault) → a ≡ Is (Ok d) → X
  refused a d fault e went = absurd cc

  -- a cut that lacks an answer doesn't go to its end: so this case needs no proof
  waits : {X : Type 0} (a : Answer Cut) (d : Cut) → a ≡ Unasked → a ≡ Is (Ok d) → X
  waits a d e went = absurd cc

  -- a cut that goes to its end is a `Course`
  pub course : (run : List Atom) (c : Cut) (atoms : List Atom) (d : Cut) → open_in c ≡ opened_by run → all_taken F C c atoms ≡ Is (Ok d)
      → Course F C run c atoms d
  course run c [] d e went = let same : c ≡ d = cc in subst (λ (x : Cut). Course F C run c [] x) same over
  course run c (Break ∷ atoms) d e went =
      by (list_any opens_word run) (name_of F C (opened_by run)) refl refl
      (sym (ap (λ a. a >>- λ x. all_taken F C x atoms) (broken_is F C c ∙ ap (ended F C c) e)) ∙ went)
      (λ name. course [] (with_word c (opened_by run) name) atoms d refl) (course [] (bare c) atoms d refl)
    where
      -- Plan: by whether the run is a word, and then by whether its name is known.
      by : (begun : Bool) (name : Answer (List ℕ)) → list_any opens_word run ≡ begun → name_of F C (opened_by run) ≡ name
          → (ended_as F C c (opened_by run) begun name >>- λ x. all_taken F C x atoms) ≡ Is (Ok d)
          → ((n : List ℕ) → all_taken F C (with_word c (opened_by run) n) atoms ≡ Is (Ok d)
          → Course F C [] (with_word c (opened_by run) n) atoms d)
          → (all_taken F C (bare c) atoms ≡ Is (Ok d) → Course F C [] (bare c) atoms d) → Course F C run c (Break ∷ atoms) d
      by false name b n w full empty = breaks_bare b (empty w)
      by true (Is (Ok name)) b n w full empty = breaks name b n (full name w)
      by true (Is (Err fault)) b n w full empty = refused (Is (Err fault)) d fault refl w
      by true Unasked b n w full empty = waits Unasked d refl w
  course run c (Piped ∷ atoms) d e went =
      by (list_any opens_word run) (name_of F C (opened_by run)) refl refl
      (sym (ap (λ a. (a >>- λ x. Is (Ok (pipe_ended x))) >>- λ x. all_taken F C x atoms) (broken_is F C c ∙ ap (ended F C c) e)) ∙ went)
      (λ name. course [] (pipe_ended (with_word c (opened_by run) name)) atoms d
      (ap open_in (pipe_kept (with_word c (opened_by run) name))))
      (course [] (pipe_ended (bare c)) atoms d (ap open_in (pipe_kept (bare c))))
    where
      by : (begun : Bool) (name : Answer (List ℕ)) → list_any opens_word run ≡ begun → name_of F C (opened_by run) ≡ name
          → ((ended_as F C c (opened_by run) begun name >>- λ x. Is (Ok (pipe_ended x))) >>- λ x. all_taken F C x atoms) ≡ Is (Ok d)
          → ((n : List ℕ) → all_taken F C (pipe_ended (with_word c (opened_by run) n)) atoms ≡ Is (Ok d)
          → Course F C [] (pipe_ended (with_word c (opened_by run) n)) atoms d)
          → (all_taken F C (pipe_ended (bare c)) atoms ≡ Is (Ok d) → Course F C [] (pipe_ended (bare c)) atoms d)
          → Course F C run c (Piped ∷ atoms) d
      by false name b n w full empty = pipes_bare b (empty w)
      by true (Is (Ok name)) b n w full empty = pipes name b n (full name w)
      by true (Is (Err fault)) b n w full empty = refused (Is (Err fault)) d fault refl w
      by true Unasked b n w full empty = waits Unasked d refl w
  course run c (Put b ∷ atoms) d e went = moves (Put b) refl
      (course (run ++ Put b ∷ []) (moved c (Put b)) atoms d (moves_on c run (Put b) refl e) went)
  course run c (Open ∷ atoms) d e went = moves Open refl
      (course (run ++ Open ∷ []) (moved c Open) atoms d (moves_on c run Open refl e) went)
  course run c (End ∷ atoms) d e went = moves End refl (course (run ++ End ∷ []) (moved c End) atoms d (moves_on c run End refl e) went)
  course run c (Marked mark ∷ atoms) d e went = moves (Marked mark) refl
      (course (run ++ (Marked mark) ∷ []) (moved c (Marked mark)) atoms d (moves_on c run (Marked mark) refl e) went)
  course run c (Without ∷ atoms) d e went = moves Without refl
      (course (run ++ Without ∷ []) (moved c Without) atoms d (moves_on c run Without refl e) went)
  course run c (From ∷ atoms) d e went = moves From refl
      (course (run ++ From ∷ []) (moved c From) atoms d (moves_on c run From refl e) went)
  course run c (To ∷ atoms) d e went = moves To refl (course (run ++ To ∷ []) (moved c To) atoms d (moves_on c run To refl e) went)
  course run c (FileFrom ∷ atoms) d e went = moves FileFrom refl
      (course (run ++ FileFrom ∷ []) (moved c FileFrom) atoms d (moves_on c run FileFrom refl e) went)
  course run c (FileTo ∷ atoms) d e went = moves FileTo refl
      (course (run ++ FileTo ∷ []) (moved c FileTo) atoms d (moves_on c run FileTo refl e) went)
