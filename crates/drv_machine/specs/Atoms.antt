use Rattle.drv_funcs.specs.Functions.{function_of}
use Rattle.drv_funcs.specs.Outcome as outcomes
use Rattle.drv_funcs.specs.declared.function.Function.{Function as Func}
use Rattle.drv_machine.specs.Context.{Context, Source, argument, names, site_of, text_named}
use Rattle.drv_machine.specs.Cutting.{all_taken, argument_words, file_words, nothing_cut}
use Rattle.drv_machine.specs.Temps.{last_drawn, temp_name}
use Rattle.drv_machine.specs.Names.{is_word, language_of, suffix_of}
use Rattle.drv_machine.specs.Working.{◌>>-◌, ◌>>=◌, ◌>>◌, Atom, Break, End, FileFrom, FileTo, From, Goes, Levels, Marked, Piped, Put}
use Rattle.drv_machine.specs.Working.{Refuses, Step, To, Waits, Without, Worked, World, following, bytes, called, change, counted, give}
use Rattle.drv_machine.specs.Working.{is_among, known, look, most_open, needs, nothing, opened, puts, refuse, word_of, words}
use Rattle.drv_machine.specs.declared.fault.MachineFault.TheVariants as fault
use Rattle.drv_machine.specs.declared.fault.MachineFault.TheVariants.{NoInput, NotInLink}
use Rattle.drv_machine.specs.declared.machine.marking.Mark.TheVariants.{AsFile, AsOutput, AsRemoved, AsScript}
use Rattle.drv_machine.specs.declared.machine.naming.Drawing.TheVariants.{Anew, Once}
use Rattle.drv_machine.specs.declared.machine.naming.Drawing.{Drawing}
use Rattle.drv_match.specs.Matching.{hidden_by, hits, is_hit, name_at}
use Rattle.drv_match.specs.Pattern as switches
use Rattle.drv_search.specs.Search.{folder_options}
use Rattle.drv_syntax.specs.declared.token.TempKind.TheVariants.{Last, New, PipedIn, PipedOut, Shared}
use Rattle.drv_syntax.specs.declared.token.TempKind.{TempKind}
use Rattle.drv_syntax.specs.Parsed.{tree_of}
use Rattle.drv_syntax.specs.Stars.{has_star}
use Rattle.drv_syntax.specs.Tree as tree
use Rattle.drv_syntax.specs.Tree.{Accumulate, ArgumentsFile, Asked, Blank, Brace, Braces, BuiltinText, Choices, Choose, Emit, Escape}
use Rattle.drv_syntax.specs.Tree.{FailureFile, Function, HasLanguage, HasResult, HasSuffix, HasSwitch, Hide, Item, Items, NamedText}
use Rattle.drv_syntax.specs.Tree.{Newline, Notice, Pattern, Pipe, Plain, Span, Star, TempName, Tests, UserError, choice, more, no_choice}
use Rattle.drv_syntax.specs.Tree.{no_test, none, pattern, test}
use Rattle.drv_syntax.specs.declared.token.Leaf.TheVariants.{AssemblerOptions, BaseName, BaseStem, Directories, FoundFile, FoundScript}
use Rattle.drv_syntax.specs.declared.token.Leaf.TheVariants.{Accumulated, InputName, NoOutput, ObjectSuffix, Output, Outputs, Percent}
use Rattle.drv_syntax.specs.declared.token.Leaf.TheVariants.{PreprocessorOptions, Removed}
use Rattle.drv_syntax.specs.declared.token.Leaf.{Leaf}
use Rattle.drv_system.specs.Facts.{Facts}
use Rattle.drv_system.specs.Known.{Is, Unasked}
use Rattle.drv_words.specs.Bytes.{at_sign, hyphen, percent}
use Rattle.drv_words.specs.FileNames.{base, stem}
use Rattle.drv_words.specs.Response.{response_text}
use Rattle.std.specs.List.{filter, flat_map, list_any, range_with_len}
use Rattle.std.specs.Option.{unwrap_or}
use Rattle.std.specs.Prelude.{◌&&◌, ◌+◌, Err, Bool, List, [], ◌∷◌, ◌++◌, Option, None, Some, codes, drop, false, if◌then◌else◌, is_some}
use Rattle.std.specs.Prelude.{length, map, nat_lt, not, option_map, suc, true, zero, ℕ}

-- What each item of a text means: one row for each directive (GCC manual, "Spec Files"; what it leaves open is this
-- project's profile). A meaning is a `Step` (Working): the atoms that it puts, which `Cutting` makes words and commands of, and what it
-- changes in the world. `F` is what the system answers, `C` what the text is run for.

-- a pattern of a text, for the switches of a line
abbrev pub matching : Pattern → switches.Pattern
matching (pattern word star) = record { name = word; star = star }

-- what a test answers, turned round by a !
abbrev pub turned : Bool → Bool → Bool
turned negated holds = if negated then not holds else holds

-- an option goes to the end of the list, unless it is in it
abbrev pub added : List ℕ → List (List ℕ) → List (List ℕ)
added option options = if is_among options option then options else options ++ option ∷ []

-- what the user reads of a text (this project's profile)
abbrev pub noted : List ℕ → List ℕ
noted text = codes "note: " ++ text

-- the options that %x accumulated so far
abbrev pub accumulated_step : Step (Unit {0})
accumulated_step = look (λ w. words w.accumulated) >>= puts

-- a word's bytes with a break after them
abbrev pub broken_word : List ℕ → List Atom
broken_word word = map Put word ++ Break ∷ []

-- for any answers F of the system, and any C that a text is run for
module _ (F : Facts) (C : Context) where
  -- the name of the input; the link has none
  abbrev pub input_name : Step (List ℕ)
  input_name = by C.input
    where
      by : Option Source → Step (List ℕ)
      by None = refuse NoInput
      by (Some source) = give source.name

  -- a name that is drawn so, for a file with these contents
  abbrev pub draw_with : List ℕ → Drawing → List ℕ → Step (List ℕ)
  draw_with contents drawing suffix =
      look (λ w. w.number) >>= λ number. needs (known (temp_name F C.seed number suffix)) >>= λ path.
      change (λ w. record w {
        number = w.number + 1;
        drawn =
            w.drawn ++ record { drawing = drawing; suffix = suffix; path = path; contents = contents } ∷ [];
      }) >> give path

  -- draws a name so, for a file without contents
  abbrev pub draw : Drawing → List ℕ → Step (List ℕ)
  draw drawing suffix = draw_with [] drawing suffix

  -- the last name that was drawn so with this suffix, or else a new one
  abbrev pub drawn_or_new : Drawing → List ℕ → Step (List ℕ)
  drawn_or_new drawing suffix = look (λ w. last_drawn drawing suffix w.drawn) >>= by
    where
      by : Option (List ℕ) → Step (List ℕ)
      by (Some path) = give path
      by None = draw drawing suffix

  -- the name of %u is put: a new one
  abbrev pub new_name_step : List ℕ → Step (Unit {0})
  new_name_step suffix = draw Anew suffix >>= bytes

  -- the name of %g or %U is put: the last one with this suffix, or else a new one
  abbrev pub name_step : Drawing → List ℕ → Step (Unit {0})
  name_step drawing suffix = drawn_or_new drawing suffix >>= bytes

  -- the name of a temporary, by its directive; with -pipe %| is a hyphen and %m nothing
  abbrev pub temp_step : TempKind → List ℕ → Step (Unit {0})
  temp_step Shared suffix = name_step Once suffix
  temp_step New suffix = new_name_step suffix
  temp_step Last suffix = name_step Anew suffix
  temp_step PipedOut suffix = if C.is_piping then bytes (hyphen ∷ []) else name_step Once suffix
  temp_step PipedIn suffix = if C.is_piping then nothing else name_step Once suffix

  -- the options for the folders of libraries
  abbrev pub folders_step : Step (Unit {0})
  folders_step = needs (known (folder_options F C.prefixes)) >>= λ options. puts (flat_map broken_word options)

  -- the outputs, which only the link has
  abbrev pub outputs_step : Step (Unit {0})
  outputs_step = by C.input
    where
      by : Option Source → Step (Unit {0})
      by None = look (λ w. Break ∷ words w.outputs) >>= puts
      by (Some source) = refuse NotInLink

  -- the places of the switches, in order
  abbrev pub places : List ℕ
  places = range_with_len 0 (length C.switches)

  -- a switch as the line has it, and its argument
  abbrev pub switch_atoms : ℕ → List Atom
  switch_atoms i = map Put (hyphen ∷ name_at (names C) i) ++ Break ∷ word_of (argument C i)

  -- the switches that one of the patterns hits
  abbrev pub emitted : List (Span × Pattern) → List Bool → List Atom
  emitted patterns hidden = flat_map switch_atoms (filter (λ i. list_any (λ p. is_hit (names C) hidden (matching p.1) i) patterns) places)

  -- the words of arguments, whose atoms go nowhere else; what stops first in their order counts
  abbrev pub words_of : World → Worked (Unit {0}) → Worked (List (List ℕ))
  words_of w (Goes atoms u v) = needs (argument_words F C atoms) v
  words_of w (Refuses atoms fault) = needs (all_taken F C nothing_cut atoms >>- λ c. Is (Err fault)) w
  words_of w (Waits atoms) = needs (all_taken F C nothing_cut atoms >>- λ c. Unasked) w

  -- the words that a step makes as arguments; its atoms go nowhere else
  abbrev pub arguments : Step (Unit {0}) → Step (List (List ℕ))
  arguments step w = words_of w (step w)

  -- what a function gives for these words, which were run before it is called, and the outputs after it; no text has a function of another
  -- name
  abbrev pub called_step : List (List ℕ) → Option Func → World → Step (Option (List ℕ))
  called_step args None w = give None
  called_step args (Some function) w =
      needs (called (outcomes.called F (names C) w.hidden (site_of C) function args w.outputs)) >>= λ c.
      change (λ v. record v { outputs = c.outputs }) >> give c.given

  -- calls the function of this name with these words; no value where it gives none
  abbrev pub call_step : List ℕ → List (List ℕ) → Step (Option (List ℕ))
  call_step name args = look (λ w. w) >>= called_step args (function_of name)

  -- the bytes of its value, if it has one
  abbrev pub value_step : List ℕ → List (List ℕ) → Step (Unit {0})
  value_step name args = call_step name args >>= λ given. bytes (unwrap_or given [])

  -- whether the function of this name gives a value for these words
  abbrev pub has_value : List ℕ → List (List ℕ) → Step Bool
  has_value name args = call_step name args >>= λ given. give (is_some given)

  -- the tree of the text of a name, if the set has one
  abbrev pub tree_named : List ℕ → Option Items
  tree_named name = option_map tree_of (text_named C name)

  -- the name of a file with these words takes their place; for none there is nothing
  abbrev pub named_file : List (List ℕ) → Step (Unit {0})
  named_file [] = nothing
  named_file (word ∷ words) =
      draw_with (response_text (word ∷ words)) Anew (codes ".args") >>= λ path. puts (map Put (at_sign ∷ path) ++ Break ∷ [])

  -- what is in a %@ that makes a file: its words are those of the file, and then the file is named
  abbrev pub filed : Worked (Unit {0}) → Worked (Unit {0})
  filed (Goes atoms u v) =
      following (Break ∷ FileFrom ∷ atoms ++ Break ∷ FileTo ∷ [])
      ((needs (file_words F C atoms) >>= named_file) (record v { is_in_file = false }))
  filed (Refuses atoms fault) = Refuses (Break ∷ FileFrom ∷ atoms) fault
  filed (Waits atoms) = Waits (Break ∷ FileFrom ∷ atoms)

  -- what is in a %@ that makes a file, and the file's name after it
  abbrev pub file_step : Step (Unit {0}) → Step (Unit {0})
  file_step step w = filed (step (record w { is_in_file = true }))

  -- a %@ makes a file where words of the line are from one, unless it is in another
  abbrev pub starts_file : World → Bool
  starts_file w = C.from_file && not w.is_in_file

  -- a named text is run in one more open part; a missing one gives nothing
  abbrev pub named : Option Items → Levels → Step (Unit {0})
  named None levels = nothing
  named (Some items) levels = opened levels (λ deeper inside. deeper items)

  -- X for each switch that is hit when its turn comes, with the rest of its name for %*; then the switch's argument
  abbrev pub each_hit : Pattern → (List ℕ → Levels → Step (Unit {0})) → Levels → List ℕ → Step (Unit {0})
  each_hit p X levels [] = nothing
  each_hit p X levels (i ∷ is) =
      look (λ w. is_hit (names C) w.hidden (matching p) i) >>= λ hit.
      (if hit then opened levels (λ deeper inside. X (drop (length (matching p).name) (name_at (names C) i)) inside) >> puts
      (Break ∷ word_of (argument C i)) else nothing)
      >> each_hit p X levels is

  -- X by the first of its tests that is true: for each hit where X has a %* of its own, else once; where none is true,
  -- what the other alternatives give
  abbrev pub worked : Option Asked → Bool → (List ℕ → Levels → Step (Unit {0})) → Levels → List ℕ → Step (Unit {0}) → Step (Unit {0})
  worked None own X levels star others = others
  worked (Some (HasSwitch p)) true X levels star others = each_hit p X levels places
  worked (Some asked) own X levels star others = X star levels

  -- the directives that are whole with their byte
  abbrev pub leaf_step : Leaf → Step (Unit {0})
  leaf_step Percent = puts (Put percent ∷ [])  -- %%
  leaf_step InputName = input_name >>= bytes  -- %i
  leaf_step BaseStem = input_name >>= λ name. bytes (stem name)  -- %b
  leaf_step BaseName = input_name >>= λ name. bytes (base name)  -- %B
  leaf_step Removed = puts (Marked AsRemoved ∷ [])  -- %d
  leaf_step Output = puts (Marked AsOutput ∷ [])  -- %w
  leaf_step NoOutput = puts (Without ∷ [])  -- %V
  leaf_step Outputs = outputs_step  -- %o
  leaf_step ObjectSuffix = bytes (codes ".o")  -- %O
  leaf_step FoundFile = puts (Marked AsFile ∷ [])  -- %s
  leaf_step FoundScript = puts (Marked AsScript ∷ [])  -- %T
  leaf_step Accumulated = accumulated_step  -- %X
  leaf_step AssemblerOptions = puts (words C.assembler)  -- %Y
  leaf_step PreprocessorOptions = puts (words C.preprocessor)  -- %Z
  leaf_step Directories = folders_step  -- %D

  -- the rows. `star` is the value of %*; `levels` has a place for each part that may still be opened
  abbrev mutual
    -- the row of an item: what it means where %* has this value
    pub item_step : Item → Levels → List ℕ → Step (Unit {0})
    item_step (Plain b) levels star = puts (Put b ∷ [])
    item_step (Escape b) levels star = puts (Put b ∷ [])
    item_step Blank levels star = puts (Break ∷ [])
    item_step Newline levels star = puts (Break ∷ End ∷ [])
    item_step Pipe levels star = puts (Piped ∷ [])
    item_step (tree.Leaf leaf) levels star = leaf_step leaf
    item_step (TempName kind suffix) levels star = temp_step kind suffix  -- %g %u %U %| %m
    item_step (Accumulate option) levels star = change (λ w. record w { accumulated = added option w.accumulated })  -- %x{..}
    item_step (UserError text) levels star = refuse (fault.UserError text)  -- %e
    item_step (Notice text) levels star = change (λ w. record w { notices = w.notices ++ noted text ∷ [] })  -- %n
    item_step (NamedText name) levels star = named (tree_named name) levels  -- %(..)
    item_step (BuiltinText name) levels star = named (tree_named name) levels  -- %a %A %l %L %G %S %E %C %1 %2
    item_step (Hide p) levels star = change (λ w. record w { hidden = hidden_by (matching p) (names C) w.hidden })  -- %< %>
    item_step (Function name items) levels star =
        opened levels (λ deeper inside. arguments (items_step items inside star) >>= value_step name)  -- %:NAME(..)
    item_step (Braces brace) levels star = brace_step brace levels star  -- %{..}
    item_step Star levels star = bytes star  -- %*
    item_step (FailureFile brace) levels star =
        opened levels (λ deeper inside. puts (From ∷ []) >> brace_step brace inside star >> puts (Break ∷ To ∷ []))  -- %W{..}
    item_step (ArgumentsFile brace) levels star =
        opened levels (λ deeper inside. look starts_file >>= λ starts. if starts then file_step (brace_step brace inside star)
        else brace_step brace inside star)  -- %@{..}

    -- items one after another, each counted before it is run
    pub items_step : Items → Levels → List ℕ → Step (Unit {0})
    items_step none levels star = nothing
    items_step (more span item items) levels star = counted >> item_step item levels star >> items_step items levels star

    -- what braces mean: switches that patterns hit, or an X of alternatives
    pub brace_step : Brace → Levels → List ℕ → Step (Unit {0})
    brace_step (Emit patterns) levels star = look (λ w. emitted patterns w.hidden) >>= puts
    brace_step (Choose choices) levels star = choices_step choices levels star

    -- the first alternative with a true test, or the default
    pub choices_step : Choices → Levels → List ℕ → Step (Unit {0})
    choices_step no_choice levels star = nothing
    choices_step (choice span no_test items choices) levels star = items_step items levels star
    choices_step (choice span (test place negated asked tests) items choices) levels star =
        first_true (test place negated asked tests) levels star >>= λ found.
        worked found (has_star items) (λ rest inside. items_step items inside rest) levels star (choices_step choices levels star)

    -- the first test that is true
    pub first_true : Tests → Levels → List ℕ → Step (Option Asked)
    first_true no_test levels star = give None
    first_true (test span negated asked tests) levels star =
        truth asked levels star >>= λ holds. if turned negated holds then give (Some asked) else first_true tests levels star

    -- what a test answers, its ! aside
    pub truth : Asked → Levels → List ℕ → Step Bool
    truth (HasSwitch p) levels star = look (λ w. nat_lt 0 (length (hits (names C) w.hidden (matching p))))
    truth (HasSuffix word) levels star = give (is_word word (suffix_of C.input))
    truth (HasLanguage word) levels star = give (is_word word (language_of C.input))
    truth (HasResult name items) levels star = opened levels (λ deeper inside. arguments (items_step items inside star) >>= has_value name)

  -- a test that was answered: the next ones are judged, unless it is true
  abbrev pub judged : Bool → Asked → Tests → Levels → List ℕ → Bool → Step (Option Asked)
  judged negated asked tests levels star holds = if turned negated holds then give (Some asked) else first_true tests levels star

  -- an X by what was found of its tests, and the alternatives after it
  abbrev pub found_step : Items → Choices → Levels → List ℕ → Option Asked → Step (Unit {0})
  found_step items choices levels star found =
      worked found (has_star items) (λ rest inside. items_step items inside rest) levels star (choices_step choices levels star)

  -- what items mean where so many parts may still be opened, the next one first
  abbrev pub levels_left : ℕ → Levels
  levels_left zero = []
  levels_left (suc n) = (λ items. items_step items (levels_left n) []) ∷ levels_left n

  -- nothing is hidden, drawn or counted; options, numbers and outputs go on from the texts before
  abbrev pub start : World
  start = record {
    hidden = map (λ s. false) C.switches;
    accumulated = C.accumulated;
    drawn = [];
    number = C.number;
    outputs = C.outputs;
    notices =
        [];
    is_in_file = false;
    items = 0;
  }

  -- a whole text, whose end ends its last command
  abbrev pub whole_text : Items → Step (Unit {0})
  whole_text items = items_step items (levels_left most_open) [] >> puts (Break ∷ End ∷ [])

  -- what the items of a whole text mean from its start: all its atoms, and how they end
  abbrev pub atoms : Items → Worked (Unit {0})
  atoms items = whole_text items start
