use Rattle.drv_machine.specs.Context.{Context}
use Rattle.drv_machine.specs.Cutting.{CutLine, NamedLine, found_file, found_script, named_line, no_line, script_option}
use Rattle.drv_machine.specs.Working.{◌>>-◌, Answer, Atom, Break, End, FileFrom, FileTo, From, Goes, Marked, Open, Piped, Put, Refuses, To}
use Rattle.drv_machine.specs.Working.{Waits, Without, Worked}
use Rattle.drv_machine.specs.declared.machine.marking.Mark.TheVariants.{AsFile, AsOutput, AsRemoved, AsScript}
use Rattle.drv_system.specs.Facts.{Facts}
use Rattle.drv_system.specs.Known.{Is}
use Rattle.std.specs.List.{filter, filter_map, flat_map, list_any}
use Rattle.std.specs.Prelude.{◌≡◌, ◌&&◌, ◌||◌, Bool, List, [], ◌∷◌, ◌++◌, Option, None, Some, Ok, false, if◌then◌else◌, is_some, not}
use Rattle.std.specs.Prelude.{option_and_then, suc, true, zero, ℕ}

-- What a list of atoms is cut into, by definitions over the whole list (this project's profile). `Cutting` says it atom by atom, as the
-- code does; the laws of src/cut_laws.rt, which alone cite this file, say that both agree.

-- the atom ends the word that is open: a break or a pipe
abbrev pub ends_word : Atom → Bool
ends_word Break = true
ends_word Piped = true
ends_word atom = false

-- the atom opens a word, if none is open: a byte, or the opening of a whole word
abbrev pub opens_word : Atom → Bool
opens_word (Put b) = true
opens_word Open = true
opens_word atom = false

-- the byte that an atom puts into a word, if it puts one
abbrev pub byte_of : Atom → List ℕ
byte_of (Put b) = b ∷ []
byte_of atom = []

-- the mark of %d: the word's file is removed at the end of the run
abbrev pub is_removed : Atom → Bool
is_removed (Marked AsRemoved) = true
is_removed atom = false

-- the mark of %w: the word is the output
abbrev pub is_output : Atom → Bool
is_output (Marked AsOutput) = true
is_output atom = false

-- the mark of %s: the word is looked for as a file
abbrev pub is_file : Atom → Bool
is_file (Marked AsFile) = true
is_file atom = false

-- the mark of %T: the word is looked for as a linker script
abbrev pub is_script : Atom → Bool
is_script (Marked AsScript) = true
is_script atom = false

-- the atom is a %V, which bars outputs that began before it
abbrev pub is_bar : Atom → Bool
is_bar Without = true
is_bar atom = false

-- atoms between two places where a word ends, and what follows them
pub record Run : Type 0 where
  pub atoms : List Atom
  pub following : List Atom

-- the runs that end; these atoms precede, since a word ended
abbrev pub runs : List Atom → List Atom → List Run
runs before [] = []
runs before (atom ∷ atoms) = if ends_word atom then record { atoms = before; following = atoms } ∷ runs [] atoms
    else runs (before ++ atom ∷ []) atoms

-- a run is a word where one is open in it
abbrev pub is_word : Run → Bool
is_word run = list_any opens_word run.atoms

-- the words that end, where these atoms precede, since a word ended
abbrev pub words_after : List Atom → List Atom → List Run
words_after before atoms = filter is_word (runs before atoms)

-- the words that end in a list of atoms
abbrev pub words : List Atom → List Run
words atoms = words_after [] atoms

-- a %V follows the beginning of the word
abbrev pub is_barred : List Atom → Bool
is_barred [] = false
is_barred (atom ∷ atoms) = if opens_word atom then list_any is_bar atoms else is_barred atoms

-- a word that is marked as an output and begins after the last %V
abbrev pub may_be_output : Run → Bool
may_be_output word = list_any is_output word.atoms && not (is_barred (word.atoms ++ word.following))

-- the last item of a list, if it has one
abbrev pub last_of : {X : Type 0} → List X → Option X
last_of [] = None
last_of {X = X} (x ∷ xs) = by (last_of xs)
  where
    by : Option X → Option X
    by None = Some x
    by (Some later) = Some later

-- the output: the last word that is marked as one and begins after the last %V
abbrev pub output : List Atom → Option Run
output atoms = last_of (filter may_be_output (words atoms))

-- the word is marked as removed
abbrev pub is_removed_word : Run → Bool
is_removed_word word = list_any is_removed word.atoms

-- the words that are marked as removed, in order
abbrev pub removed : List Atom → List Run
removed atoms = filter is_removed_word (words atoms)

-- answers for the items of a list
abbrev pub each : {X Y : Type 0} → (X → Answer Y) → List X → Answer (List Y)
each answer [] = Is (Ok [])
each answer (x ∷ xs) = answer x >>- λ y. each answer xs >>- λ ys. Is (Ok (y ∷ ys))

-- that there is an answer, or what stops it
abbrev pub whether : {X : Type 0} → Answer X → Answer (Unit {0})
whether answer = answer >>- λ x. Is (Ok tt)

-- an answer for the item, if there is one
abbrev pub if_any : {X Y : Type 0} → (X → Answer Y) → Option X → Answer (Option Y)
if_any answer None = Is (Ok None)
if_any answer (Some x) = answer x >>- λ y. Is (Ok (Some y))

-- a place of the list: the atoms before it, the nearest first, and the one there
pub record Place : Type 0 where
  pub before : List Atom
  pub atom : Atom

-- the places of a list, after these atoms, the nearest first
abbrev pub places_after : List Atom → List Atom → List Place
places_after before [] = []
places_after before (atom ∷ atoms) =
    record { before = before; atom = atom } ∷ places_after (atom ∷ before) atoms

-- the places of a list, in order
abbrev pub places : List Atom → List Place
places atoms = places_after [] atoms

-- the run that ends after these atoms
abbrev pub run_before : List Atom → List Atom
run_before [] = []
run_before (atom ∷ before) = if ends_word atom then [] else run_before before ++ atom ∷ []

-- the run that ends after these atoms is a word
abbrev pub is_word_before : List Atom → Bool
is_word_before before = list_any opens_word (run_before before)

-- a %W begins before, that ends after these atoms; so many, which end before, are passed
abbrev pub has_begun : ℕ → List Atom → Bool
has_begun passed [] = false
has_begun zero (From ∷ before) = true
has_begun (suc passed) (From ∷ before) = has_begun passed before
has_begun passed (To ∷ before) = has_begun (suc passed) before
has_begun passed (atom ∷ before) = has_begun passed before

-- the last word that ends in it, if one does
abbrev pub last_in : ℕ → List Atom → Option (List Atom)
last_in passed [] = None
last_in zero (From ∷ before) = None
last_in (suc passed) (From ∷ before) = last_in passed before
last_in passed (To ∷ before) = last_in (suc passed) before
last_in passed (atom ∷ before) =
    if ends_word atom && is_word_before before then Some (run_before before)
    else last_in passed before

-- a list of none or one, of what there may be
abbrev pub list_of : {X : Type 0} → Option X → List X
list_of None = []
list_of (Some x) = x ∷ []

-- the word that ends after these atoms, if it is marked as an output
abbrev pub output_before : List Atom → List (List Atom)
output_before before =
    if is_word_before before && list_any is_output (run_before before) then run_before before ∷ []
    else []

-- The failure file of a place, which is removed if its command fails: where a %W ends, the last word that ended in it; where a word ends
-- that %w marks, that word.
abbrev pub failure_at : Place → List (List Atom)
failure_at place = by place.atom
  where
    by : Atom → List (List Atom)
    by To = if has_begun zero place.before then list_of (last_in zero place.before) else []
    by atom = if ends_word atom then output_before place.before else []

-- the failure files of a list, in the order of their places: each as the atoms of its word
abbrev pub failure_files : List Atom → List (List Atom)
failure_files atoms = flat_map failure_at (places atoms)

-- for any answers F of the system, and any C that a text is run for
module _ (F : Facts) (C : Context) where
  -- what a word of these atoms ends as, of which its marks say whether it is looked for
  abbrev pub path_of : List Atom → Answer (List ℕ)
  path_of atoms =
      if list_any is_script atoms then found_script F C (flat_map byte_of atoms)
      else if list_any is_file atoms then found_file F C (flat_map byte_of atoms)
      else Is (Ok (flat_map byte_of atoms))

  -- what a word that ended is a path of: as `path_of` has it
  abbrev pub path : Run → Answer (List ℕ)
  path word = path_of word.atoms

  -- the words of the command that it gives
  abbrev pub texts : Run → Answer (List (List ℕ))
  texts word = path word >>- λ name. Is (Ok (if list_any is_script word.atoms then script_option ∷ name ∷ [] else name ∷ []))

-- what a command is made of, in order: words that end, what words are made of before, and pipes
pub data Piece : Type 0 where
  Word : Run → Piece
  Part : Piece
  Pipe : Piece

-- the atom makes a word, or marks one
abbrev pub is_part : Atom → Bool
is_part (Put b) = true
is_part Open = true
is_part (Marked mark) = true
is_part atom = false

-- the piece that an atom is, if it makes or marks a word
abbrev pub part_of : Atom → List Piece
part_of atom = if is_part atom then Part ∷ [] else []

-- the word that a run ends as, if it is one
abbrev pub word_of : Run → List Piece
word_of run = if is_word run then Word run ∷ [] else []

-- the commands that end; this run and these pieces precede
abbrev pub commands : List Atom → List Piece → List Atom → List (List Piece)
commands run pieces [] = []
commands run pieces (Break ∷ atoms) = commands [] (pieces ++ word_of (record { atoms = run; following = atoms })) atoms
commands run pieces (Piped ∷ atoms) = commands [] ((pieces ++ word_of (record { atoms = run; following = atoms })) ++ Pipe ∷ []) atoms
commands run pieces (End ∷ atoms) = pieces ∷ commands (run ++ End ∷ []) [] atoms
commands run pieces (atom ∷ atoms) = commands (run ++ atom ∷ []) (pieces ++ part_of atom) atoms

-- the command that has not ended
abbrev pub open_command : List Atom → List Piece → List Atom → List Piece
open_command run pieces [] = pieces
open_command run pieces (Break ∷ atoms) = open_command [] (pieces ++ word_of (record { atoms = run; following = atoms })) atoms
open_command run pieces (Piped ∷ atoms) = open_command []
    ((pieces ++ word_of (record { atoms = run; following = atoms })) ++ Pipe ∷ []) atoms
open_command run pieces (End ∷ atoms) = open_command (run ++ End ∷ []) [] atoms
open_command run pieces (atom ∷ atoms) = open_command (run ++ atom ∷ []) (pieces ++ part_of atom) atoms

-- the piece is a word that ended
abbrev pub is_end_of_word : Piece → Bool
is_end_of_word (Word word) = true
is_end_of_word piece = false

-- the piece is a pipe
abbrev pub is_pipe : Piece → Bool
is_pipe Pipe = true
is_pipe piece = false

-- a pipe is stray where no word precedes it in its command
abbrev pub lacks_word : List Piece → Bool
lacks_word [] = false
lacks_word (Word word ∷ pieces) = false
lacks_word (Part ∷ pieces) = lacks_word pieces
lacks_word (Pipe ∷ pieces) = true

-- a pipe is stray too where part of a word or a pipe follows it in its command
abbrev pub has_more : List Piece → Bool
has_more [] = false
has_more (Word word ∷ pieces) = has_more pieces
has_more (Part ∷ pieces) = has_more pieces
has_more (Pipe ∷ pieces) = list_any (λ piece. not (is_end_of_word piece)) pieces

-- a pipe of this command is stray: no word precedes it, or something follows it
abbrev pub is_stray : List Piece → Bool
is_stray pieces = lacks_word pieces || has_more pieces

-- a pipe of some command is stray, also in the one that has not ended
abbrev pub has_stray_pipe : List Atom → Bool
has_stray_pipe atoms = list_any is_stray (commands [] [] atoms) || is_stray (open_command [] [] atoms)

-- the file of a %@ begins
abbrev pub begins_file : Atom → Bool
begins_file FileFrom = true
begins_file atom = false

-- the file of a %@ begins or ends
abbrev pub bounds_file : Atom → Bool
bounds_file FileFrom = true
bounds_file FileTo = true
bounds_file atom = false

-- what a list is made of: atoms, and files with the atoms in each
pub data Stretch : Type 0 where
  Bare : Atom → Stretch
  Filed : List Atom → Stretch

-- a word that is open ends before the file and in it
abbrev pub stretch_atoms : Stretch → List Atom
stretch_atoms (Bare atom) = atom ∷ []
stretch_atoms (Filed atoms) = Break ∷ FileFrom ∷ atoms ++ Break ∷ FileTo ∷ []

-- what is left where files are taken out
abbrev pub without_file : Stretch → List Atom
without_file (Bare atom) = atom ∷ []
without_file (Filed atoms) = Break ∷ []

-- a file begins or ends that is not one of the list's, or is in one
abbrev pub is_broken : Stretch → Bool
is_broken (Bare atom) = bounds_file atom
is_broken (Filed atoms) = list_any bounds_file atoms

-- the list is made of atoms and whole files, none of which is in another
pub record Stretched (atoms : List Atom) : Type 0 where
  pub stretches : List Stretch
  pub whole : list_any is_broken stretches ≡ false
  pub same : flat_map stretch_atoms stretches ≡ atoms

-- what has a beginning and an end among atoms: a %W, and the file of a %@
pub data Enclosed : Type 0 where
  Failure : Enclosed
  File : Enclosed

-- how many of them are open after an atom before which so many are, unless it ends one that isn't open, or begins a file in another
abbrev pub open_after : Atom → Enclosed → ℕ → Option ℕ
open_after From Failure count = Some (suc count)
open_after To Failure zero = None
open_after To Failure (suc count) = Some count
open_after FileFrom File zero = Some 1
open_after FileFrom File (suc count) = None
open_after FileTo File zero = None
open_after FileTo File (suc count) = Some count
open_after atom enclosed count = Some count

-- how many of them are open after a list of atoms, before which so many are
abbrev pub open_following : List Atom → Enclosed → ℕ → Option ℕ
open_following [] enclosed count = Some count
open_following (atom ∷ atoms) enclosed count = option_and_then (λ left. open_following atoms enclosed left) (open_after atom enclosed count)

-- None ends that is not open, and no file begins in another. Where work goes to its end, none is left open.
abbrev pub Balanced : {X : Type 0} → Worked X → Type 0
Balanced (Goes atoms x w) = (enclosed : Enclosed) → open_following atoms enclosed 0 ≡ Some 0
Balanced (Refuses atoms fault) = (enclosed : Enclosed) → is_some (open_following atoms enclosed 0) ≡ true
Balanced (Waits atoms) = (enclosed : Enclosed) → is_some (open_following atoms enclosed 0) ≡ true

-- for any answers F of the system, and any C that a text is run for
module _ (F : Facts) (C : Context) where
  -- the words of a command, and whether it has a pipe
  abbrev pub line_of : List Piece → Answer CutLine
  line_of [] = Is (Ok no_line)
  line_of (Word word ∷ pieces) = texts F C word >>- λ words. line_of pieces
      >>- λ line. Is (Ok (record { words = words ++ line.words; piped = line.piped }))
  line_of (Part ∷ pieces) = line_of pieces
  line_of (Pipe ∷ pieces) = line_of pieces >>- λ line. Is (Ok (record { words = line.words; piped = true }))

  -- the commands; one without a word is dropped
  abbrev pub lines : List Atom → Answer (List NamedLine)
  lines atoms = each line_of (commands [] [] atoms) >>- λ found. Is (Ok (filter_map named_line found))
