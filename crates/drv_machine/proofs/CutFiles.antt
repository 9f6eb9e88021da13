use Rattle.drv_machine.proofs.CutLines.{Lined, commands_are, inside_lined, lined, or_none, with_texts}
use Rattle.drv_machine.proofs.Laws.{all_taken-append, then_same, then_then}
use Rattle.drv_machine.proofs.Runs.{Course, Opened, any_after, bare, bare_ends, breaks, breaks_bare, broken_is, course, ended_as, moved}
use Rattle.drv_machine.proofs.Runs.{moves, name_of, open_in, opened_by, over, pipes, pipes_bare, with_word, word_ends, words_moved}
use Rattle.drv_machine.specs.Context.{Context}
use Rattle.drv_machine.specs.Cuts.{Bare, Filed, Run, Stretch, begins_file, bounds_file, each, has_stray_pipe, is_broken, is_script, line_of}
use Rattle.drv_machine.specs.Cuts.{lines, open_command, opens_word, path, stretch_atoms, texts, without_file, words, words_after}
use Rattle.drv_machine.specs.Cutting.{Cut, CutLine, NamedLine, all_taken, argument_words, broken, file_begun, file_done, file_words}
use Rattle.drv_machine.specs.Cutting.{found_file, found_script, inside_done, line_ended, no_marks, nothing_cut, pipe_done, pipe_ended}
use Rattle.drv_machine.specs.Cutting.{script_option, taken, word_done, words_in_file}
use Rattle.drv_machine.specs.Working.{◌>>-◌, Answer, Atom, Break, End, FileFrom, FileTo, From, Marked, Open, Piped, Put, To, Without}
use Rattle.drv_machine.specs.declared.machine.marking.Marking.{Marking}
use Rattle.drv_system.specs.Facts.{Facts}
use Rattle.drv_system.specs.Known.{Is, Unasked}
use Rattle.std.proofs.Common.{◌≡◌, ◌∙◌, ◌++◌, ◌||◌, Bool, List, [], ◌∷◌, None, Err, Ok, Option, Some, ap, append-nil, append_assoc, false}
use Rattle.std.proofs.Common.{refl, subst, sym, true, ℕ}
use Rattle.std.proofs.lemmas.Grind.{flat_map-append}
use Rattle.std.specs.List.{flat_map, list_any}
use Rattle.std.specs.Prelude.{if◌then◌else◌}

-- For file_law: the files in a list of atoms, their words, and the commands around them. A file is what a %@ makes of its words: the atoms
-- between `FileFrom` and `FileTo`. The list without its files, with a break for each, is cut into the same commands (`alike`), so that
-- CutLines speaks of it.
-- Names: `c`, `d`: what has been cut so far, before and after. `F`: what is known of the outside. `C`: what the text is run for (switches,
-- texts). `atoms`: what the text gives, from here on. `outer`: the command around the file of a `%@`, if one is open. `run`: the atoms
-- since a word ended. `a`: an answer: what is known, a refusal, or nothing yet. `b`: a test's value, so that `by` can go by both cases.
-- `l`: the commands of a cut. `all_taken`: atoms, one after another. `lined`: the fields of a cut that its commands are made of.
-- `bounds_file`: the file of a %@ begins or ends. `pipe_ended`: where words go to a file, no command ends with a pipe. `path`: what a word
-- that ended is a path of. `without_file`: what is left where files are taken out. `broken`: the word that is open, if one is, ends.
-- `stretch_atoms`: a word that is open ends before the file and in it. `nothing_cut`: what has been cut before the first atom. `words`: the
-- words that end in a list of atoms. `x`, `y`: cuts that are compared. `m`: the fields of another cut's commands. `w`: a run that is a
-- word.

-- A cut without its output, removed files and failure files: the words of a file may add to these, and the commands do not depend on them.
-- What two lists give is compared as plain cuts.
abbrev pub plain : Cut → Cut
plain c = record c { removed = []; on_failure = []; output = None; inside = [] }

-- the end of a %W leaves the plain cut as it is; the ends of commands and files, and a pipe, make the same plain cut of a cut and of its
-- plain one
inside_plain : (inside : List (Option (List ℕ))) (c : Cut) → plain (inside_done inside c) ≡ plain c
inside_plain [] c = refl
inside_plain (None ∷ outer) c = refl
inside_plain (Some last ∷ outer) c = refl

-- the end of a command makes the same plain cut of a cut and of its plain one
end_plain : (c : Cut) (outer : Option CutLine) → plain (line_ended (record c { outer = outer }))
    ≡ plain (line_ended (record (plain c) { outer = outer }))
end_plain c None = refl
end_plain c (Some line) = refl

-- a pipe after these words makes the same plain cut of a cut and of its plain one
pipe_words_plain : (c : Cut) (words : List (List ℕ))
    → plain (pipe_done (record c { line = record { words = words; piped = c.line.piped } }))
    ≡ plain (pipe_done (record (plain c) { line = record { words = words; piped = c.line.piped } }))
pipe_words_plain c [] = refl
pipe_words_plain c (w ∷ ws) = refl

-- the end of a command with a pipe does so, in a file or not
pipe_plain : (c : Cut) (outer : Option CutLine) → plain (pipe_ended (record c { outer = outer }))
    ≡ plain (pipe_ended (record (plain c) { outer = outer }))
pipe_plain c None = pipe_words_plain (record c { outer = None }) c.line.words
pipe_plain c (Some line) = refl

-- the end of a file makes one plain cut of a cut and of its plain one
file_plain : (c : Cut) (outer : Option CutLine) → plain (file_done (record c { outer = outer }))
    ≡ plain (file_done (record (plain c) { outer = outer }))
file_plain c None = refl
file_plain c (Some line) = refl

-- for any answers F of the system, and any C that a text is run for
module _ (F : Facts) (C : Context) where
  -- the answer that is this cut, plain: put after a step, it leaves of what the step gives only what the commands depend on
  abbrev as_plain : Cut → Answer Cut
  as_plain d = Is (Ok (plain d))

  -- the end of a word is the same for a cut and for its plain one, but for the fields that are taken out
  broken_by : (c : Cut) (word : Option (List ℕ)) (script file : Bool)
      → (broken F C (record c { word = word; marks = record c.marks { script = script; file = file } }) >>- as_plain)
      ≡ (broken F C (record (plain c) { word = word; marks = record c.marks { script = script; file = file } }) >>- as_plain)
  broken_by c None script file = refl
  broken_by c (Some word) true file = by (found_script F C word)
    where
      -- Plan: by what is known of the script; `d` is the cut with the open word.
      d : Cut
      d = record c { word = Some word; marks = record c.marks { script = true; file = file } }

      by : (a : Answer (List ℕ)) → ((a >>- λ path. Is (Ok (word_done d (script_option ∷ path ∷ []) path))) >>- as_plain)
          ≡ ((a >>- λ path. Is (Ok (word_done (plain d) (script_option ∷ path ∷ []) path))) >>- as_plain)
      by (Is (Ok path)) = refl
      by (Is (Err fault)) = refl
      by Unasked = refl
  broken_by c (Some word) false true = by (found_file F C word)
    where
      -- Plan: by what is known of the file; `d` is the cut with the open word.
      d : Cut
      d = record c { word = Some word; marks = record c.marks { script = false; file = true } }

      by : (a : Answer (List ℕ)) → ((a >>- λ path. Is (Ok (word_done d (path ∷ []) path))) >>- as_plain)
          ≡ ((a >>- λ path. Is (Ok (word_done (plain d) (path ∷ []) path))) >>- as_plain)
      by (Is (Ok path)) = refl
      by (Is (Err fault)) = refl
      by Unasked = refl
  broken_by c (Some word) false false = refl

  -- the end of a word makes the same plain cut, whether files are left out before it or after it
  broken_plain : (c : Cut) → (broken F C c >>- as_plain) ≡ (broken F C (plain c) >>- as_plain)
  broken_plain c = broken_by c c.word c.marks.script c.marks.file

  -- the end of a word with a pipe makes the same plain cut of two answers whose plain cuts are the same
  piped_plain : (a b : Answer Cut) → (a >>- as_plain) ≡ (b >>- as_plain)
      → ((a >>- λ d. Is (Ok (pipe_ended d))) >>- as_plain) ≡ ((b >>- λ d. Is (Ok (pipe_ended d))) >>- as_plain)
  piped_plain a b e =
      then_then a (λ d. Is (Ok (pipe_ended d))) as_plain
      ∙ then_same a (λ d. as_plain (pipe_ended d)) (λ d. as_plain (pipe_ended (plain d)))
      (λ d. ap (λ (x : Cut). Is (Ok x)) (pipe_plain d d.outer))
      ∙ sym (then_then a as_plain (λ d. as_plain (pipe_ended d)))
      ∙ ap (λ (x : Answer Cut). x >>- λ d. as_plain (pipe_ended d)) e
      ∙ then_then b as_plain (λ d. as_plain (pipe_ended d))
      ∙ sym (then_same b (λ d. as_plain (pipe_ended d)) (λ d. as_plain (pipe_ended (plain d)))
      (λ d. ap (λ (x : Cut). Is (Ok x)) (pipe_plain d d.outer)))
      ∙ sym (then_then b (λ d. Is (Ok (pipe_ended d))) as_plain)

  -- one atom makes the same plain cut of a cut and of its plain one
  taken_plain : (c : Cut) (atom : Atom) → (taken F C c atom >>- as_plain) ≡ (taken F C (plain c) atom >>- as_plain)
  taken_plain c (Put b) = refl
  taken_plain c Open = refl
  taken_plain c Break = broken_plain c
  taken_plain c End = ap (λ (x : Cut). Is (Ok x)) (end_plain c c.outer)
  taken_plain c Piped = piped_plain (broken F C c) (broken F C (plain c)) (broken_plain c)
  taken_plain c (Marked mark) = refl
  taken_plain c Without = refl
  taken_plain c From = refl
  taken_plain c To = ap (λ (x : Cut). Is (Ok x)) (inside_plain c.inside c)
  taken_plain c FileFrom = refl
  taken_plain c FileTo = ap (λ (x : Cut). Is (Ok x)) (file_plain c c.outer)

  -- one atom, and those after it, make the same plain cut if those after it do
  then_plain : (x : Cut) (atom : Atom) (atoms : List Atom)
      → ((d : Cut) → (all_taken F C d atoms >>- as_plain) ≡ (all_taken F C (plain d) atoms >>- as_plain))
      → ((taken F C x atom >>- λ d. all_taken F C d atoms) >>- as_plain)
      ≡ ((taken F C x atom >>- as_plain) >>- λ d. all_taken F C d atoms >>- as_plain)
  then_plain x atom atoms next =
      then_then (taken F C x atom) (λ d. all_taken F C d atoms) as_plain
      ∙ then_same (taken F C x atom) (λ d. all_taken F C d atoms >>- as_plain) (λ d. all_taken F C (plain d) atoms >>- as_plain) next
      ∙ sym (then_then (taken F C x atom) as_plain (λ d. all_taken F C d atoms >>- as_plain))

  -- a list of atoms makes the same plain cut of a cut and of its plain one
  all_plain : (c : Cut) (atoms : List Atom) → (all_taken F C c atoms >>- as_plain) ≡ (all_taken F C (plain c) atoms >>- as_plain)
  all_plain c [] = refl
  all_plain c (atom ∷ atoms) =
      then_plain c atom atoms (λ d. all_plain d atoms)
      ∙ ap (λ (x : Answer Cut). x >>- λ d. all_taken F C d atoms >>- as_plain) (taken_plain c atom)
      ∙ sym (then_plain (plain c) atom atoms (λ d. all_plain d atoms))

  -- a list of atoms makes the same plain cut of two cuts whose plain ones are the same
  all_alike : (c d : Cut) (atoms : List Atom) → plain c ≡ plain d
      → (all_taken F C c atoms >>- as_plain) ≡ (all_taken F C d atoms >>- as_plain)
  all_alike c d atoms e = all_plain c atoms ∙ ap (λ (x : Cut). all_taken F C x atoms >>- as_plain) e ∙ sym (all_plain d atoms)

-- the value of the first of two steps, from which the second gives this one
abbrev pub Came : {X Y : Type 0} → Answer X → (X → Answer Y) → Y → Type 0
Came {X = X} a next y = (x : X) × (a ≡ Is (Ok x)) × (next x ≡ Is (Ok y))

-- where two steps, one after the other, give a value, the first one gives one
pub came : {X Y : Type 0} (a : Answer X) (next : X → Answer Y) (y : Y) → (a >>- next) ≡ Is (Ok y) → Came a next y
came (Is (Ok x)) next y e = (x, refl, e)
came (Is (Err fault)) next y e = absurd cc
came Unasked next y e = absurd cc

-- in a file no command ends, nor with a pipe
end_in_file : (c : Cut) (outer : Option CutLine) (l : CutLine) → outer ≡ Some l
    → line_ended (record c { outer = outer }) ≡ record c { outer = outer }
end_in_file c None l e = absurd cc
end_in_file c (Some line) l e = refl

-- in a file no command ends with a pipe
pipe_in_file : (c : Cut) (outer : Option CutLine) (l : CutLine) → outer ≡ Some l
    → pipe_ended (record c { outer = outer }) ≡ record c { outer = outer }
pipe_in_file c None l e = absurd cc
pipe_in_file c (Some line) l e = refl

-- in a file the end of a word makes no pipe stray, where its words have no pipe
no_pipe_yet : (c : Cut) → c.line.piped ≡ false → record (lined c) { stray = c.stray || c.line.piped } ≡ lined c
no_pipe_yet c e = ap (λ (b : Bool). record (lined c) { stray = c.stray || b }) e
    ∙ ap (λ (b : Bool). record (lined c) { stray = b }) (or_none c.stray)

-- in a file an atom, but for the end of a word, changes no command
moved_in_file : (c : Cut) (atom : Atom) (l : CutLine) → bounds_file atom ≡ false → c.outer ≡ Some l → c.line.piped ≡ false
    → lined (moved c atom) ≡ lined c
moved_in_file c (Put b) l n o p = no_pipe_yet c p
moved_in_file c Open l n o p = no_pipe_yet c p
moved_in_file c Break l n o p = refl
moved_in_file c End l n o p = ap lined (end_in_file c c.outer l o)
moved_in_file c Piped l n o p = refl
moved_in_file c (Marked mark) l n o p = no_pipe_yet c p
moved_in_file c Without l n o p = refl
moved_in_file c From l n o p = refl
moved_in_file c To l n o p = inside_lined c c.inside
moved_in_file c FileFrom l n o p = absurd cc
moved_in_file c FileTo l n o p = absurd cc

-- an `or` that is false has both its sides false: the first stretch and the others
not_first : (a b : Bool) → (a || b) ≡ false → (a ≡ false) × (b ≡ false)
not_first true b e = absurd cc
not_first false b e = (refl, e)

-- between two cuts only these words were added, to the words of the file
pub record Within (F : Facts) (C : Context) (l m : Lined) (found : List Run) : Type 0 where
  pub outer : m.outer ≡ l.outer
  pub lines : m.lines ≡ l.lines
  pub stray : m.stray ≡ l.stray
  pub piped : m.line.piped ≡ l.line.piped
  pub lists : List (List (List ℕ))
  pub all : each (texts F C) found ≡ Is (Ok lists)
  pub words : m.line.words ≡ l.line.words ++ flat_map (λ list. list) lists

-- for any answers F of the system, and any C that a text is run for
module _ (F : Facts) (C : Context) where
  -- one more word in a file, before those after it
  within_word : (l m : Lined) (w : Run) (list : List (List ℕ)) (found : List Run) → texts F C w ≡ Is (Ok list)
      → Within F C (with_texts l list) m found → Within F C l m (w ∷ found)
  within_word l m w list found is rest = record {
    outer = rest.outer;
    lines = rest.lines;
    stray = rest.stray;
    piped = rest.piped;
    lists = list ∷ rest.lists;
    all = ap (λ (a : Answer (List (List ℕ))). a >>- λ y. each (texts F C) found >>- λ ys. Is (Ok (y ∷ ys))) is
        ∙ ap (λ (a : Answer (List (List (List ℕ)))). a >>- λ ys. Is (Ok (list ∷ ys))) rest.all;
    words = rest.words ∙ append_assoc l.line.words list (flat_map (λ ws. ws) rest.lists);
  }

  -- the texts of a run whose path was found
  texts_are : (run atoms : List Atom) (name : List ℕ) → path F C (record { atoms = run; following = atoms }) ≡ Is (Ok name)
      → texts F C (record { atoms = run; following = atoms })
      ≡ Is (Ok (if list_any is_script run then script_option ∷ name ∷ [] else name ∷ []))
  texts_are run atoms name is = ap (λ (a : Answer (List ℕ)). a
      >>- λ n. Is (Ok (if list_any is_script run then script_option ∷ n ∷ [] else n ∷ []))) is

  -- in a file a break ends a run that is a word: its texts go to the words of the file
  word_within : (c d : Cut) (run atoms : List Atom) (name : List ℕ) → list_any opens_word run ≡ true
      → path F C (record { atoms = run; following = atoms }) ≡ Is (Ok name)
      → Within F C (lined (with_word c (opened_by run) name)) (lined d) (words_after [] atoms)
      → Within F C (lined c) (lined d) (words_after run (Break ∷ atoms))
  word_within c d run atoms name some is rest =
      subst (λ (found : List Run). Within F C (lined c) (lined d) found) (sym (word_ends run atoms some))
      (within_word (lined c) (lined d) (record { atoms = run; following = atoms })
      (if list_any is_script run then script_option ∷ name ∷ [] else name ∷ []) (words_after [] atoms)
      (texts_are run atoms name is) rest)

  -- in a file a break ends a run that is no word: nothing goes to the words of the file
  bare_within : (l m : Lined) (run atoms : List Atom) → list_any opens_word run ≡ false → Within F C l m (words_after [] atoms)
      → Within F C l m (words_after run (Break ∷ atoms))
  bare_within l m run atoms none rest = subst (λ (found : List Run). Within F C l m found) (sym (bare_ends run atoms none)) rest

  -- in a file the words of a list of atoms go to the file, and no command ends
  pub within : {run atoms : List Atom} {c d : Cut} → Course F C run c atoms d → list_any bounds_file atoms ≡ false → (l : CutLine)
      → c.outer ≡ Some l → c.line.piped ≡ false → Within F C (lined c) (lined d) (words_after run atoms)
  within (over {c = c}) n l o p = record {
    outer = refl;
    lines = refl;
    stray = refl;
    piped = refl;
    lists = [];
    all = refl;
    words =
        sym (append-nil c.line.words);
  }
  within (moves {run = run} {atoms = atoms} {c = c} {d = d} atom e rest) n l o p =
      let bounds = not_first (bounds_file atom) (list_any bounds_file atoms) n in
      let same = moved_in_file c atom l bounds.0 o p in
      subst (λ (found : List Run). Within F C (lined c) (lined d) found) (sym (words_moved run atoms atom e))
      (subst (λ (x : Lined). Within F C x (lined d) (words_after (run ++ atom ∷ []) atoms)) same
      (within rest bounds.1 l (ap (λ (x : Lined). x.outer) same ∙ o) (ap (λ (x : Lined). x.line.piped) same ∙ p)))
  within (breaks_bare {run = run} {atoms = atoms} {c = c} {d = d} none rest) n l o p =
      bare_within (lined c) (lined d) run atoms none (within rest n l o p)
  within (pipes_bare {run = run} {atoms = atoms} {c = c} {d = d} none rest) n l o p =
      let same = pipe_in_file (bare c) c.outer l o in
      bare_within (lined c) (lined d) run atoms none
      (subst (λ (x : Cut). Within F C (lined x) (lined d) (words_after [] atoms)) same
      (within rest n l (ap (λ (x : Cut). x.outer) same ∙ o) (ap (λ (x : Cut). x.line.piped) same ∙ p)))
  within (breaks {run = run} {atoms = atoms} {c = c} {d = d} name some is rest) n l o p =
      word_within c d run atoms name some is (within rest n l o p)
  within (pipes {run = run} {atoms = atoms} {c = c} {d = d} name some is rest) n l o p =
      let same = pipe_in_file (with_word c (opened_by run) name) c.outer l o in
      word_within c d run atoms name some is
      (subst (λ (x : Cut). Within F C (lined x) (lined d) (words_after [] atoms)) same
      (within rest n l (ap (λ (x : Cut). x.outer) same ∙ o) (ap (λ (x : Cut). x.line.piped) same ∙ p)))

  -- atoms in which no file begins or ends are so with a break after them
  bounds_after : (atoms : List Atom) → list_any bounds_file atoms ≡ false → list_any bounds_file (atoms ++ Break ∷ []) ≡ false
  bounds_after [] n = refl
  bounds_after (atom ∷ atoms) n =
      let bounds = not_first (bounds_file atom) (list_any bounds_file atoms) n in
      ap (λ (b : Bool). b || list_any bounds_file (atoms ++ Break ∷ [])) bounds.0 ∙ bounds_after atoms bounds.1

  -- the words of a file, in a cut of which one is open
  words_within : (d : Cut) (outer : Option CutLine) → outer ≡ Some nothing_cut.line
      → words_in_file (record d { outer = outer }) ≡ d.line.words
  words_within d None e = absurd cc
  words_within d (Some line) e = refl

  -- the words of a file are the texts of the runs of its atoms
  pub file_words_are : (atoms : List Atom) (found : List (List ℕ)) → list_any bounds_file atoms ≡ false
      → file_words F C atoms ≡ Is (Ok found)
      → (each (texts F C) (words (atoms ++ Break ∷ [])) >>- λ lists. Is (Ok (flat_map (λ list. list) lists))) ≡ Is (Ok found)
  file_words_are atoms found n e = by (came (all_taken F C (file_begun nothing_cut) (atoms ++ Break ∷ []))
      (λ c. Is (Ok (words_in_file c))) found e)
    where
      by : Came (all_taken F C (file_begun nothing_cut) (atoms ++ Break ∷ [])) (λ c. Is (Ok (words_in_file c))) found
          → (each (texts F C) (words (atoms ++ Break ∷ [])) >>- λ lists. Is (Ok (flat_map (λ list. list) lists))) ≡ Is (Ok found)
      by (d, went, is) =
          let w = within (course F C [] (file_begun nothing_cut) (atoms ++ Break ∷ []) d refl went)
          (bounds_after atoms n) nothing_cut.line refl refl in
          ap (λ (a : Answer (List (List (List ℕ)))). a >>- λ lists. Is (Ok (flat_map (λ list. list) lists))) w.all
          ∙ ap (λ (ws : List (List ℕ)). Is (Ok ws)) (sym w.words)
          ∙ ap (λ (ws : List (List ℕ)). Is (Ok ws)) (sym (words_within d d.outer w.outer)) ∙ is

-- no word is open in a cut, no mark waits, and no %V bars
abbrev Closed : Cut → Type 0
Closed d = (d.word ≡ None) × (d.marks ≡ no_marks) × (d.barred ≡ false)

-- what is open in a cut, by its word, its marks and its bar alone
abbrev open_of : Option (List ℕ) → Marking → Bool → Opened
open_of word marks barred = open_in (record nothing_cut { word = word; marks = marks; barred = barred })

-- in a cut without a word, a mark and a bar nothing is open, as after no atom
closed_opens : (d : Cut) → Closed d → open_in d ≡ opened_by []
closed_opens d e =
    ap (λ (w : Option (List ℕ)). open_of w d.marks d.barred) e.0 ∙ ap (λ (m : Marking). open_of None m d.barred) e.1
    ∙ ap (λ (b : Bool). open_of None no_marks b) e.2

-- a plain cut by its fields
abbrev cut_of : Option (List ℕ) → Marking → Bool → CutLine → List NamedLine → Bool → Option CutLine → Cut
cut_of word marks barred line lines stray outer = record {
  word = word;
  marks = marks;
  barred = barred;
  line = line;
  lines = lines;
  stray = stray;
  removed = [];
  on_failure = [];
  output = None;
  outer = outer;
  inside = [];
}

-- two plain cuts after a break are the same if their commands are
same_plain : (x y : Cut) (line : CutLine) (outer : Option CutLine) → Closed x → Closed y → y.lines ≡ x.lines → y.stray ≡ x.stray
    → outer ≡ None
    → cut_of y.word y.marks y.barred line y.lines y.stray None ≡ cut_of x.word x.marks x.barred line x.lines x.stray outer
same_plain x y line outer a b lines stray out =
    ap (λ (w : Option (List ℕ)). cut_of w y.marks y.barred line y.lines y.stray None) (b.0 ∙ sym a.0)
    ∙ ap (λ (m : Marking). cut_of x.word m y.barred line y.lines y.stray None) (b.1 ∙ sym a.1)
    ∙ ap (λ (z : Bool). cut_of x.word x.marks z line y.lines y.stray None) (b.2 ∙ sym a.2)
    ∙ ap (λ (ls : List NamedLine). cut_of x.word x.marks x.barred line ls y.stray None) lines
    ∙ ap (λ (z : Bool). cut_of x.word x.marks x.barred line x.lines z None) stray
    ∙ ap (λ (o : Option CutLine). cut_of x.word x.marks x.barred line x.lines x.stray o) (sym out)

-- at the end of a file the command before it goes on
file_back : (y : Cut) (outer : Option CutLine) (l : CutLine) → outer ≡ Some l
    → plain (file_done (record y { outer = outer })) ≡ plain (record y { outer = None; line = l })
file_back y None l e = absurd cc
file_back y (Some line) l e = let same : line ≡ l = cc in ap (λ (x : CutLine). plain (record y { outer = None; line = x })) same

-- the ends of commands, with a pipe or without, neither begin nor end a file
end_outside : (c : Cut) (outer : Option CutLine) → (line_ended (record c { outer = outer })).outer ≡ outer
end_outside c None = refl
end_outside c (Some line) = refl

-- a pipe after these words leaves a file open or not
words_outside : (c : Cut) (words : List (List ℕ)) → (pipe_done (record c { line = record { words = words; piped = c.line.piped } })).outer
    ≡ c.outer
words_outside c [] = refl
words_outside c (w ∷ ws) = refl

-- a pipe leaves a file open or not, as it was before
pipe_outside : (c : Cut) (outer : Option CutLine) → (pipe_ended (record c { outer = outer })).outer ≡ outer
pipe_outside c None = words_outside (record c { outer = None }) c.line.words
pipe_outside c (Some line) = refl

-- for any answers F of the system, and any C that a text is run for
module _ (F : Facts) (C : Context) where
  -- after a break no word is open, and as before a file is open or not
  broken_closed : (c d : Cut) → broken F C c ≡ Is (Ok d) → Closed d × (d.outer ≡ c.outer)
  broken_closed c d e = by (open_in c).begun (name_of F C (open_in c)) (sym (broken_is F C c) ∙ e)
    where
      by : (begun : Bool) (name : Answer (List ℕ)) → ended_as F C c (open_in c) begun name ≡ Is (Ok d) → Closed d × (d.outer ≡ c.outer)
      by false name w = let same : bare c ≡ d = cc in subst (λ (x : Cut). Closed x × (x.outer ≡ c.outer)) same ((refl, refl, refl), refl)
      by true (Is (Ok name)) w = let same : with_word c (open_in c) name ≡ d = cc in
          subst (λ (x : Cut). Closed x × (x.outer ≡ c.outer)) same ((refl, refl, refl), refl)
      by true (Is (Err fault)) w = absurd cc
      by true Unasked w = absurd cc

  -- the end of a word and a pipe leave a file open or not, as it was before
  piped_outside : (c d : Cut) → Came (broken F C c) (λ x. Is (Ok (pipe_ended x))) d → d.outer ≡ c.outer
  piped_outside c d (x, is, e) = let same : pipe_ended x ≡ d = cc in ap (λ (y : Cut). y.outer) (sym same) ∙ pipe_outside x x.outer
      ∙ (broken_closed c x is).1

  -- a cut goes on as it is
  abbrev gone : Cut → Answer Cut
  gone x = Is (Ok x)

  -- a cut that goes on as it is leaves a file open or not, as it was before
  same_outside : (x d : Cut) (outer : Option CutLine) → gone x ≡ gone d → x.outer ≡ outer → d.outer ≡ outer
  same_outside x d outer e is = let same : x ≡ d = cc in ap (λ (y : Cut). y.outer) (sym same) ∙ is

  -- an atom that bounds no file leaves the file that is open, or none, as it is
  bare_outside : (c d : Cut) (atom : Atom) → bounds_file atom ≡ false → taken F C c atom ≡ Is (Ok d) → d.outer ≡ c.outer
  bare_outside c d (Put b) n e = same_outside (moved c (Put b)) d c.outer e refl
  bare_outside c d Open n e = same_outside (moved c Open) d c.outer e refl
  bare_outside c d Break n e = (broken_closed c d e).1
  bare_outside c d End n e = same_outside (line_ended c) d c.outer e (end_outside c c.outer)
  bare_outside c d Piped n e = piped_outside c d (came (broken F C c) (λ x. Is (Ok (pipe_ended x))) d e)
  bare_outside c d (Marked mark) n e = same_outside (moved c (Marked mark)) d c.outer e refl
  bare_outside c d Without n e = same_outside (moved c Without) d c.outer e refl
  bare_outside c d From n e = same_outside (moved c From) d c.outer e refl
  bare_outside c d To n e = same_outside (moved c To) d c.outer e (ap (λ (x : Lined). x.outer) (inside_lined c c.inside))
  bare_outside c d FileFrom n e = absurd cc
  bare_outside c d FileTo n e = absurd cc

  -- after a file the cut is, but for what `plain` takes out, that of a break in its place
  abbrev AfterFile : Cut → List Atom → Cut → Type 0
  AfterFile c rest d = (x : Cut) × (y : Cut) × (broken F C c ≡ Is (Ok x)) × (plain y ≡ plain x) × (y.outer ≡ None)
      × (all_taken F C y rest ≡ Is (Ok d))

  -- atoms and a break end with no open word
  file_closed : (x y : Cut) (atoms : List Atom) → all_taken F C x (atoms ++ Break ∷ []) ≡ Is (Ok y) → Closed y
  file_closed x y atoms e = by (came (all_taken F C x atoms) (λ z. all_taken F C z (Break ∷ [])) y
      (sym (all_taken-append F C x atoms (Break ∷ [])) ∙ e))
    where
      -- Plan: the atoms give a cut z, and a break after it closes its word (`from`).
      from : (z : Cut) → Came (broken F C z) (λ u. Is (Ok u)) y → Closed y
      from z (u, is, e) = let same : u ≡ y = cc in subst Closed same (broken_closed z u is).0

      by : Came (all_taken F C x atoms) (λ z. all_taken F C z (Break ∷ [])) y → Closed y
      by (z, is, e) = from z (came (broken F C z) (λ u. Is (Ok u)) y e)

  -- the cut at the end of a file is that of the break before it
  file_end : (c x y d : Cut) (atoms rest : List Atom) → list_any bounds_file atoms ≡ false → c.outer ≡ None → broken F C c ≡ Is (Ok x)
      → all_taken F C (file_begun x) (atoms ++ Break ∷ []) ≡ Is (Ok y)
      → all_taken F C (file_done y) rest ≡ Is (Ok d) → AfterFile c rest d
  file_end c x y d atoms rest n o is went e =
      let closed = broken_closed c x is in
      let w = within F C (course F C [] (file_begun x) (atoms ++ Break ∷ []) y (closed_opens x closed.0) went)
      (bounds_after F C atoms n) x.line refl refl in
      let outside : x.outer ≡ None = closed.1 ∙ o in
      let same : plain (file_done y) ≡ plain x = file_back y y.outer x.line w.outer
      ∙ same_plain x y x.line x.outer closed.0 (file_closed (file_begun x) y atoms went) w.lines w.stray outside in
      (x, file_done y, is, same, ap (λ (u : Cut). u.outer) same ∙ outside, e)

  -- a whole file, and what follows it, is cut as a break, and what follows it
  after_file : (c d : Cut) (atoms rest : List Atom) → list_any bounds_file atoms ≡ false → c.outer ≡ None
      → all_taken F C c (stretch_atoms (Filed atoms) ++ rest) ≡ Is (Ok d) → AfterFile c rest d
  after_file c d atoms rest n o e = by (came (broken F C c)
      (λ x. all_taken F C (file_begun x) ((atoms ++ Break ∷ FileTo ∷ []) ++ rest)) d e)
    where
      -- Plan: the break before the file has an answer (`by`), and so has what is cut within the file (`within_file`).
      within_file : (x : Cut) → broken F C c ≡ Is (Ok x)
          → Came (all_taken F C (file_begun x) (atoms ++ Break ∷ [])) (λ y. all_taken F C y (FileTo ∷ rest)) d → AfterFile c rest d
      within_file x is (y, went, last) = file_end c x y d atoms rest n o is went last

      by : Came (broken F C c) (λ x. all_taken F C (file_begun x) ((atoms ++ Break ∷ FileTo ∷ []) ++ rest)) d → AfterFile c rest d
      by (x, is, e) =
          within_file x is (came (all_taken F C (file_begun x) (atoms ++ Break ∷ [])) (λ y. all_taken F C y (FileTo ∷ rest)) d
          (sym (all_taken-append F C (file_begun x) (atoms ++ Break ∷ []) (FileTo ∷ rest))
          ∙ ap (all_taken F C (file_begun x)) (append_assoc atoms (Break ∷ []) (FileTo ∷ rest)
          ∙ sym (append_assoc atoms (Break ∷ FileTo ∷ []) rest)) ∙ e))

  -- without its files a list gives the same plain cut
  abbrev Alike : List Stretch → Cut → Cut → Type 0
  Alike stretches c d = (all_taken F C c (flat_map without_file stretches) >>- as_plain F C) ≡ Is (Ok (plain d))

  -- an atom outside files, before a list that is alike
  bare_alike : (atom : Atom) (stretches : List Stretch) (c d : Cut) → bounds_file atom ≡ false → c.outer ≡ None
      → ((x : Cut) → x.outer ≡ None → all_taken F C x (flat_map stretch_atoms stretches) ≡ Is (Ok d) → Alike stretches x d)
      → Came (taken F C c atom) (λ x. all_taken F C x (flat_map stretch_atoms stretches)) d → Alike (Bare atom ∷ stretches) c d
  bare_alike atom stretches c d n o goes (x, is, e) =
      ap (λ (a : Answer Cut). (a >>- λ y. all_taken F C y (flat_map without_file stretches)) >>- as_plain F C) is
      ∙ goes x (bare_outside c x atom n is ∙ o) e

  -- a file before a list that is alike
  file_alike : (atoms : List Atom) (stretches : List Stretch) (c d : Cut)
      → ((x : Cut) → x.outer ≡ None → all_taken F C x (flat_map stretch_atoms stretches) ≡ Is (Ok d) → Alike stretches x d)
      → AfterFile c (flat_map stretch_atoms stretches) d → Alike (Filed atoms ∷ stretches) c d
  file_alike atoms stretches c d goes (x, y, is, same, o, e) =
      ap (λ (a : Answer Cut). (a >>- λ z. all_taken F C z (flat_map without_file stretches)) >>- as_plain F C) is
      ∙ all_alike F C x y (flat_map without_file stretches) (sym same) ∙ goes y o e

  -- a list is cut into the same plain cut without its files
  alike : (stretches : List Stretch) (c d : Cut) → list_any is_broken stretches ≡ false → c.outer ≡ None
      → all_taken F C c (flat_map stretch_atoms stretches) ≡ Is (Ok d) → Alike stretches c d
  alike [] c d n o e = ap (λ (a : Answer Cut). a >>- as_plain F C) e
  alike (Bare atom ∷ stretches) c d n o e =
      let whole = not_first (bounds_file atom) (list_any is_broken stretches) n in
      bare_alike atom stretches c d whole.0 o (λ x. alike stretches x d whole.1)
      (came (taken F C c atom) (λ x. all_taken F C x (flat_map stretch_atoms stretches)) d e)
  alike (Filed atoms ∷ stretches) c d n o e =
      let whole = not_first (list_any bounds_file atoms) (list_any is_broken stretches) n in
      file_alike atoms stretches c d (λ x. alike stretches x d whole.1)
      (after_file c d atoms (flat_map stretch_atoms stretches) whole.0 o e)

-- an atom that bounds no file begins none
begins_none : (atom : Atom) → bounds_file atom ≡ false → begins_file atom ≡ false
begins_none FileFrom n = absurd cc
begins_none _ n = refl

-- a list without its files begins none
none_begins : (stretches : List Stretch) → list_any is_broken stretches ≡ false
    → list_any begins_file (flat_map without_file stretches) ≡ false
none_begins [] n = refl
none_begins (Bare atom ∷ stretches) n =
    let whole = not_first (bounds_file atom) (list_any is_broken stretches) n in
    ap (λ (b : Bool). b || list_any begins_file (flat_map without_file stretches)) (begins_none atom whole.0)
    ∙ none_begins stretches whole.1
none_begins (Filed atoms ∷ stretches) n = none_begins stretches (not_first (list_any bounds_file atoms) (list_any is_broken stretches) n).1

-- for any answers F of the system, and any C that a text is run for
module _ (F : Facts) (C : Context) where
  -- the commands, stray pipes and open command of the list without its files are those of the cut
  abbrev Around : List Stretch → Cut → Type 0
  Around stretches c =
      (lines F C (flat_map without_file stretches) ≡ Is (Ok c.lines)) × (has_stray_pipe (flat_map without_file stretches) ≡ c.stray)
      × (line_of F C (open_command [] [] (flat_map without_file stretches)) ≡ Is (Ok c.line))

  -- the commands, stray pipes and open command of a list with files are those of the list without them
  pub around_files : (stretches : List Stretch) (c : Cut) → list_any is_broken stretches ≡ false
      → all_taken F C nothing_cut (flat_map stretch_atoms stretches) ≡ Is (Ok c) → Around stretches c
  around_files stretches c n e = by (came (all_taken F C nothing_cut (flat_map without_file stretches)) (as_plain F C) (plain c)
      (alike F C stretches nothing_cut c n refl e))
    where
      -- Plan: from the cut of the list without files, which has an answer.
      by : Came (all_taken F C nothing_cut (flat_map without_file stretches)) (as_plain F C) (plain c) → Around stretches c
      by (d, is, e) =
          let same : plain d ≡ plain c = cc in
          let found = commands_are F C (flat_map without_file stretches) d (none_begins stretches n) is in (
            found.0 ∙ ap (λ (x : Cut). Is (Ok x.lines)) same,
            found.1 ∙ ap (λ (x : Cut). x.stray) same,
            found.2
                ∙ ap (λ (x : Cut). Is (Ok x.line)) same,
          )

  -- the commands of a list with files are those of the list without them
  pub lines_around : (stretches : List Stretch) (c : Cut) → list_any is_broken stretches ≡ false
      → all_taken F C nothing_cut (flat_map stretch_atoms stretches) ≡ Is (Ok c)
      → lines F C (flat_map without_file stretches) ≡ Is (Ok c.lines)
  lines_around stretches c n e = (around_files stretches c n e).0

  -- a list with files has a stray pipe exactly if the list without them has one
  pub stray_around : (stretches : List Stretch) (c : Cut) → list_any is_broken stretches ≡ false
      → all_taken F C nothing_cut (flat_map stretch_atoms stretches) ≡ Is (Ok c)
      → has_stray_pipe (flat_map without_file stretches) ≡ c.stray
  stray_around stretches c n e = (around_files stretches c n e).1

  -- a list with a break after it, in stretches
  with_break : (f : Stretch → List Atom) (stretches : List Stretch) → f (Bare Break) ≡ Break ∷ []
      → flat_map f (stretches ++ Bare Break ∷ []) ≡ flat_map f stretches ++ Break ∷ []
  with_break f stretches e = flat_map-append f stretches (Bare Break ∷ [])
      ∙ ap (λ (atoms : List Atom). flat_map f stretches ++ atoms) (append-nil (f (Bare Break)) ∙ e)

  -- the words of the last command of a list without its files
  abbrev words_around : List Stretch → Answer (List (List ℕ))
  words_around stretches = line_of F C (open_command [] [] (flat_map without_file stretches ++ Break ∷ [])) >>- λ line. Is (Ok line.words)

  -- the words of a function's arguments in which files are made are those of the arguments without the files
  pub arguments_around : (stretches : List Stretch) (found : List (List ℕ)) → list_any is_broken stretches ≡ false
      → argument_words F C (flat_map stretch_atoms stretches) ≡ Is (Ok found) → words_around stretches ≡ Is (Ok found)
  arguments_around stretches found n e = by (came (all_taken F C nothing_cut (flat_map stretch_atoms stretches ++ Break ∷ []))
      (λ c. Is (Ok c.line.words)) found e)
    where
      -- Plan: from the cut of the whole list, which has an answer.
      by : Came (all_taken F C nothing_cut (flat_map stretch_atoms stretches ++ Break ∷ [])) (λ c. Is (Ok c.line.words)) found
          → words_around stretches ≡ Is (Ok found)
      by (c, is, e) =
          ap (λ (atoms : List Atom). line_of F C (open_command [] [] atoms) >>- λ line. Is (Ok line.words))
          (sym (with_break without_file stretches refl))
          ∙ ap (λ (a : Answer CutLine). a >>- λ line. Is (Ok line.words))
          (around_files (stretches ++ Bare Break ∷ []) c (any_after is_broken stretches (Bare Break) ∙ n)
          (ap (all_taken F C nothing_cut) (with_break stretch_atoms stretches refl) ∙ is)).2
          ∙ e
