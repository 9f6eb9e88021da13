use Rattle.drv_machine.specs.Context.{Context}
use Rattle.drv_machine.specs.Working.{◌>>-◌, Answer, Atom, Break, End, FileFrom, FileTo, From, Marked, Open, Piped, Put, To, Without, known}
use Rattle.drv_machine.specs.Working.{searched}
use Rattle.drv_machine.specs.declared.machine.marking.Mark.TheVariants.{AsFile, AsOutput, AsRemoved, AsScript}
use Rattle.drv_machine.specs.declared.machine.marking.Mark.{Mark}
use Rattle.drv_machine.specs.declared.machine.marking.Marking.{Marking}
use Rattle.drv_search.specs.Search.{file_found, script_found}
use Rattle.drv_system.specs.Facts.{Facts}
use Rattle.drv_system.specs.Known.{Is}
use Rattle.std.specs.Option.{unwrap_or}
use Rattle.std.specs.Prelude.{◌&&◌, ◌||◌, Bool, List, [], ◌∷◌, ◌++◌, Option, None, Some, Ok, codes, false, if◌then◌else◌, is_some, map, not}
use Rattle.std.specs.Prelude.{option_map, option_to_list, true, ℕ}

-- Atoms cut into words with their marks, and words into commands, one atom after another (this project's profile). The clauses of
-- src/machine.rt and the files in src/machine/ cite it; `Cuts` says the result over the whole list.

-- the words of a command so far, and whether it ends with a pipe
pub record CutLine : Type 0 where
  pub words : List (List ℕ)
  pub piped : Bool

-- a command that has ended: the name of its program, which is its first word, the words after it, and whether it ends with a pipe
pub record NamedLine : Type 0 where
  pub name : List ℕ
  pub words : List (List ℕ)
  pub piped : Bool

-- what has been cut of a list of atoms so far
pub record Cut : Type 0 where
  pub word : Option (List ℕ)  -- that is open
  pub marks : Marking
  pub barred : Bool  -- the open word began before a %V
  pub line : CutLine  -- that is open
  pub lines : List NamedLine  -- that have ended
  pub stray : Bool  -- a pipe stood without a word before it, or something stood after one
  pub removed : List (List ℕ)
  pub on_failure : List (List ℕ)
  pub output : Option (List ℕ)
  pub outer : Option CutLine  -- the command, where words go to the file of a %@
  pub inside : List (Option (List ℕ))  -- for each %W that is open the last word that ended in it, the innermost first

-- no mark has come since a word ended
abbrev pub no_marks : Marking
no_marks = record { removed = false; output = false; file = false; script = false }

-- a command without a word and a pipe, as each begins
abbrev pub no_line : CutLine
no_line = record { words = []; piped = false }

-- what has been cut before the first atom: nothing
abbrev pub nothing_cut : Cut
nothing_cut = record {
  word = None;
  marks = no_marks;
  barred = false;
  line = no_line;
  lines = [];
  stray = false;
  removed = [];
  on_failure = [];
  output = None;
  outer = None;
  inside = [];
}

-- one mark more for the word that is open, or else the next one
abbrev pub marked : Mark → Marking → Marking
marked AsRemoved marks = record marks { removed = true }
marked AsOutput marks = record marks { output = true }
marked AsFile marks = record marks { file = true }
marked AsScript marks = record marks { script = true }

-- something is here: nothing of its command may follow a pipe
abbrev pub touched : Cut → Cut
touched c = record c { stray = c.stray || c.line.piped }

-- bytes go into the word that is open, or open one
abbrev pub in_word : Cut → List ℕ → Cut
in_word c bytes = record (touched c) { word = Some (unwrap_or c.word [] ++ bytes) }

-- the open word has ended as these words, of which the marks take the last
abbrev pub word_done : Cut → List (List ℕ) → List ℕ → Cut
word_done c words last = record c {
  word = None;
  marks = no_marks;
  barred = false;
  line = record { words = c.line.words ++ words; piped = c.line.piped };
  removed = c.removed ++ (if c.marks.removed then last ∷ [] else []);
  on_failure = c.on_failure ++ (if c.marks.output then last ∷ [] else []);
  output = if c.marks.output && not c.barred then Some last else c.output;
  inside = map (λ before. Some last) c.inside;
}

-- the command of a line, if it has a word
abbrev pub named_line : CutLine → Option NamedLine
named_line line = by line.words
  where
    by : List (List ℕ) → Option NamedLine
    by [] = None
    by (name ∷ words) = Some (record { name = name; words = words; piped = line.piped })

-- a command has ended; one without a word is dropped
abbrev pub line_done : Cut → Cut
line_done c = record c { line = no_line; lines = c.lines ++ option_to_list (named_line c.line) }

-- a pipe follows the words so far: there has to be one, and no pipe yet
abbrev pub pipe_done : Cut → Cut
pipe_done c = by c.line.words
  where
    by : List (List ℕ) → Cut
    by [] = record c { stray = true; line = record { words = []; piped = true } }
    by words = record (touched c) { line = record { words = words; piped = true } }

-- the innermost %W has ended. Where none is open, none ends: the atoms of no text do that (`text_law`).
abbrev pub inside_done : List (Option (List ℕ)) → Cut → Cut
inside_done [] c = c
inside_done (None ∷ outer) c = record c { inside = outer }
inside_done (Some last ∷ outer) c = record c { inside = outer; on_failure = c.on_failure ++ last ∷ [] }

-- where words go to a file, no command ends
abbrev pub line_ended : Cut → Cut
line_ended c = by c.outer
  where
    by : Option CutLine → Cut
    by None = line_done c
    by (Some line) = c

-- where words go to a file, no command ends with a pipe
abbrev pub pipe_ended : Cut → Cut
pipe_ended c = by c.outer
  where
    by : Option CutLine → Cut
    by None = pipe_done c
    by (Some line) = c

-- the file of a %@ begins: words go to it, and the command waits in `outer`
abbrev pub file_begun : Cut → Cut
file_begun c = record c { outer = Some c.line; line = no_line }

-- the file of a %@ ends, and words go to the command again. Where none is open, none ends: the atoms of no text do that (`text_law`).
abbrev pub file_done : Cut → Cut
file_done c = by c.outer
  where
    by : Option CutLine → Cut
    by None = c
    by (Some line) = record c { outer = None; line = line }

-- the words of the file so far
abbrev pub words_in_file : Cut → List (List ℕ)
words_in_file c = unwrap_or (option_map (λ outer. c.line.words) c.outer) []

-- the option before a linker script that was found: --script
abbrev pub script_option : List ℕ
script_option = codes "--script"

-- for any answers F of the system, and any C that a text is run for
module _ (F : Facts) (C : Context) where
  -- what a word that is marked as a file becomes
  abbrev pub found_file : List ℕ → Answer (List ℕ)
  found_file name = known (file_found F C.prefixes name)

  -- what a word that is marked as a linker script becomes
  abbrev pub found_script : List ℕ → Answer (List ℕ)
  found_script name = searched (script_found F C.prefixes name)

  -- the word that is open, if one is, ends; where it is marked as a file and as a script, the script counts
  abbrev pub broken : Cut → Answer Cut
  broken c = by c.word c.marks.script c.marks.file
    where
      by : Option (List ℕ) → Bool → Bool → Answer Cut
      by None script file = Is (Ok (record c { marks = no_marks; barred = false }))
      by (Some word) true file = found_script word >>- λ path. Is (Ok (word_done c (script_option ∷ path ∷ []) path))
      by (Some word) false true = found_file word >>- λ path. Is (Ok (word_done c (path ∷ []) path))
      by (Some word) false false = Is (Ok (word_done c (word ∷ []) word))

  -- one atom more is cut; the end of a word that is marked may look it up
  abbrev pub taken : Cut → Atom → Answer Cut
  taken c (Put b) = Is (Ok (in_word c (b ∷ [])))
  taken c Open = Is (Ok (in_word c []))
  taken c Break = broken c
  taken c End = Is (Ok (line_ended c))
  taken c Piped = broken c >>- λ d. Is (Ok (pipe_ended d))
  taken c (Marked mark) = Is (Ok (record (touched c) { marks = marked mark c.marks }))
  taken c Without = Is (Ok (record c { output = None; barred = is_some c.word }))
  taken c From = Is (Ok (record c { inside = None ∷ c.inside }))
  taken c To = Is (Ok (inside_done c.inside c))
  taken c FileFrom = Is (Ok (file_begun c))
  taken c FileTo = Is (Ok (file_done c))

  -- atoms, one after another; the first that has no answer stops it
  abbrev pub all_taken : Cut → List Atom → Answer Cut
  all_taken c [] = Is (Ok c)
  all_taken c (atom ∷ atoms) = taken c atom >>- λ d. all_taken d atoms

  -- the words of a function's arguments, cut as those of a command are; the last one ends with the arguments
  abbrev pub argument_words : List Atom → Answer (List (List ℕ))
  argument_words atoms = all_taken nothing_cut (atoms ++ Break ∷ []) >>- λ c. Is (Ok c.line.words)

  -- the words of a file, in which no command ends
  abbrev pub file_words : List Atom → Answer (List (List ℕ))
  file_words atoms = all_taken (file_begun nothing_cut) (atoms ++ Break ∷ []) >>- λ c. Is (Ok (words_in_file c))
