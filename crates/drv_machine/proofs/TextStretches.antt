use Rattle.drv_funcs.specs.declared.function.Function.{Function as Func}
use Rattle.drv_funcs.specs.Functions.{function_of}
use Rattle.drv_machine.proofs.Enclosing.{Fits, None-bounds, Stops, Unfiled, Well, WellDone, WellLevels, after_well, broken_bare}
use Rattle.drv_machine.proofs.Enclosing.{bytes_bare, bytes_well, change_well, counted_well, even_file, failure_well, fits_bare, flat_bare}
use Rattle.drv_machine.proofs.Enclosing.{give_well, halted_open, if_well, look_puts_well, look_well, needs_well, no_bounds, opened_well}
use Rattle.drv_machine.proofs.Enclosing.{puts_well, refuse_well, shaped_open, stops_file, then_well, word_bare, words_bare}
use Rattle.drv_machine.specs.Atoms.{added, filed, places, start, arguments, atoms, brace_step, broken_word, call_step, called_step}
use Rattle.drv_machine.specs.Atoms.{choices_step, draw, draw_with, drawn_or_new, each_hit, emitted, file_step, first_true, has_value}
use Rattle.drv_machine.specs.Atoms.{input_name, item_step, items_step, leaf_step, levels_left, matching, name_step, named, named_file}
use Rattle.drv_machine.specs.Atoms.{noted, outputs_step, starts_file, switch_atoms, temp_step, tree_named, truth, turned, value_step}
use Rattle.drv_machine.specs.Atoms.{worked, words_of}
use Rattle.drv_machine.specs.Context.{Context, Source, argument, names, site_of}
use Rattle.drv_machine.specs.Cutting.{all_taken, argument_words, file_words, nothing_cut}
use Rattle.drv_machine.specs.Names.{is_word, language_of, suffix_of}
use Rattle.drv_machine.specs.Temps.{last_drawn, temp_name}
use Rattle.drv_funcs.specs.Outcome as outcomes
use Rattle.drv_machine.specs.Cuts.{Balanced, Enclosed, Failure, File, Filed, Stretched, open_following}
use Rattle.drv_machine.specs.Working.{◌>>-◌, ◌>>=◌, ◌>>◌, Atom, Break, End, FileFrom, FileTo, From, Goes, Levels, Marked, Piped, Put}
use Rattle.drv_machine.specs.Working.{Refuses, Step, To, Waits, Without, Worked, World, called, known, look, most_open, needs}
use Rattle.drv_machine.specs.Working.{puts, word_of, words}
use Rattle.drv_machine.specs.declared.fault.MachineFault.TheVariants as fault
use Rattle.drv_machine.specs.declared.machine.marking.Mark.TheVariants.{AsFile, AsOutput, AsRemoved, AsScript}
use Rattle.drv_machine.specs.declared.machine.naming.Drawing.TheVariants.{Anew, Once}
use Rattle.drv_machine.specs.declared.machine.naming.Drawing.{Drawing}
use Rattle.drv_match.specs.Matching.{hidden_by, hits, is_hit, name_at}
use Rattle.drv_search.specs.Search.{folder_options}
use Rattle.drv_syntax.specs.Stars.{has_star}
use Rattle.drv_syntax.specs.Tree as tree
use Rattle.drv_syntax.specs.Tree.{Accumulate, ArgumentsFile, Asked, Blank, Brace, Braces, BuiltinText, Choices, Choose, Emit, Escape}
use Rattle.drv_syntax.specs.Tree.{FailureFile, Function, HasLanguage, HasResult, HasSuffix, HasSwitch, Hide, Item, Items, NamedText}
use Rattle.drv_syntax.specs.Tree.{Newline, Notice, Pattern, Pipe, Plain, Span, Star, TempName, Tests, UserError, choice, more, no_choice}
use Rattle.drv_syntax.specs.Tree.{no_test, none, test}
use Rattle.drv_syntax.specs.declared.token.Leaf.TheVariants.{AssemblerOptions, BaseName, BaseStem, Directories, FoundFile, FoundScript}
use Rattle.drv_syntax.specs.declared.token.Leaf.TheVariants.{Accumulated, InputName, NoOutput, ObjectSuffix, Output, Outputs, Percent}
use Rattle.drv_syntax.specs.declared.token.Leaf.TheVariants.{PreprocessorOptions, Removed}
use Rattle.drv_syntax.specs.declared.token.Leaf.{Leaf}
use Rattle.drv_syntax.specs.declared.token.TempKind.TheVariants.{Last, New, PipedIn, PipedOut, Shared}
use Rattle.drv_syntax.specs.declared.token.TempKind.{TempKind}
use Rattle.drv_system.specs.Facts.{Facts}
use Rattle.drv_system.specs.Known.{Is, Unasked}
use Rattle.drv_words.specs.Bytes.{at_sign, hyphen, percent}
use Rattle.drv_words.specs.FileNames.{base, stem}
use Rattle.drv_words.specs.Response.{response_text}
use Rattle.std.proofs.Common.{◌≡◌, ◌++◌, ◌||◌, Bool, List, [], ◌∷◌, None, Err, Option, Some, ap, append-nil, false, map, refl, subst, suc}
use Rattle.std.proofs.Common.{sym, true, zero, ℕ}
use Rattle.std.specs.List.{filter, flat_map, list_any}
use Rattle.std.specs.Option.{unwrap_or}
use Rattle.std.specs.Prelude.{◌&&◌, ◌+◌, codes, drop, if◌then◌else◌, is_some, length, nat_lt, not}

-- For text_law: the atoms of a text open and close %W and the files of %@ in pairs, and no file is in another: each step of a text is
-- `Well` (Enclosing). NAME_bare: these atoms bound neither; NAME_well: the step NAME is `Well`.
-- Names: `C`: what the text is run for (switches, texts). `w`, `v`: what the run of a text changes as it goes. `levels`: what items mean
-- after each part that may still be opened. `F`: what is known of the outside. `star`: the value of `%*`. `b`: a test's value, so that `by`
-- can go by both cases, or whether the file of a `%@` is open. `atoms`: what the text gives, from here on or from its start. `items`: the
-- items of a part. `p`: a test's pattern. `then_well`: two steps one after the other. `puts_well`: atoms that bound nothing are put.
-- `bytes_well`: the bytes of a word are put. `give_well`: a value is given without an atom. `WellLevels`: what items mean in each part that
-- may still be opened is `Well`. `WellDone`: what a step gives, in a file or not. `items_step`: items one after another, each counted
-- before it is run. `names`: the names of the line's switches, in order. `Stretched atoms`: the list is made of atoms and whole files, none
-- of which is in another.

module _ (F : Facts) where
  -- the name of the input, or the refusal that there is none
  input_well : (C : Context) (input : Option Source) → Well (input_name F (record C { input = input }))
  input_well C None = refuse_well fault.NoInput
  input_well C (Some source) = give_well source.name

  -- the words of the outputs
  outputs_well : (C : Context) (input : Option Source) → Well (outputs_step F (record C { input = input }))
  outputs_well C None = look_puts_well (λ w. Break ∷ words w.outputs) (λ w. words_bare w.outputs)
  outputs_well C (Some source) = refuse_well fault.NotInLink

module _ (F : Facts) (C : Context) where
  -- a name is drawn: only the numbers and the names drawn change
  draw_well : (contents : List ℕ) (drawing : Drawing) (suffix : List ℕ) → Well (draw_with F C contents drawing suffix)
  draw_well contents drawing suffix =
      then_well (look_well (λ w. w.number)) (λ number. then_well (needs_well (known (temp_name F C.seed number suffix))) (λ path. then_well
      (change_well (λ w. record w {
        number = w.number + 1;
        drawn =
            w.drawn ++ record { drawing = drawing; suffix = suffix; path = path; contents = contents } ∷ [];
      }) (λ w. refl))
      (λ u. give_well path)))

  -- the name drawn last, or a new one, keeps a text well, whether a file of %@ is open (b) or not
  drawn_as : (drawing : Drawing) (suffix : List ℕ) (w : World) (b : Bool) (path : Option (List ℕ))
      → last_drawn drawing suffix w.drawn ≡ path → w.is_in_file ≡ b → WellDone b (drawn_or_new F C drawing suffix w)
  drawn_as drawing suffix w b None e i = rw e (after_well b [] (draw F C drawing suffix w) (fits_bare b [] refl)
      ((draw_well [] drawing suffix).stays w b i))
  drawn_as drawing suffix w b (Some path) e i = rw e (fits_bare b [] refl, i)

  -- a name drawn once, or again, is a value without an atom
  drawn_well : (drawing : Drawing) (suffix : List ℕ) → Well (drawn_or_new F C drawing suffix)
  drawn_well drawing suffix = record { stays = λ w b i. drawn_as drawing suffix w b (last_drawn drawing suffix w.drawn) refl i }

  -- a drawn name is put
  name_well : (drawing : Drawing) (suffix : List ℕ) → Well (name_step F C drawing suffix)
  name_well drawing suffix = then_well (drawn_well drawing suffix) (λ path. bytes_well path)

  -- each kind of temporary name
  temp_well : (kind : TempKind) (suffix : List ℕ) → Well (temp_step F C kind suffix)
  temp_well Shared suffix = name_well Once suffix
  temp_well New suffix = then_well (draw_well [] Anew suffix) (λ path. bytes_well path)
  temp_well Last suffix = name_well Anew suffix
  temp_well PipedOut suffix = if_well C.is_piping (bytes_well (hyphen ∷ [])) (name_well Once suffix)
  temp_well PipedIn suffix = if_well C.is_piping (puts_well [] refl) (name_well Once suffix)

  -- a switch with its argument bounds neither %W nor a file
  switch_bare : (i : ℕ) → None-bounds (switch_atoms F C i)
  switch_bare i = no_bounds (map Put (hyphen ∷ name_at (names C) i)) (Break ∷ word_of (argument C i))
      (bytes_bare (hyphen ∷ name_at (names C) i)) (word_bare (argument C i))

  -- the switches of the line that `%{PATTERNS}` puts
  emitted_bare : (patterns : List (Span × Pattern)) (hidden : List Bool) → None-bounds (emitted F C patterns hidden)
  emitted_bare patterns hidden = flat_bare (switch_atoms F C) switch_bare
      (filter (λ i. list_any (λ p. is_hit (names C) hidden (matching p.1) i) patterns) (places F C))

  -- a call of a function that is there, or is not
  called_well : (args : List (List ℕ)) (function : Option Func) (v : World) → Well (called_step F C args function v)
  called_well args None v = give_well None
  called_well args (Some function) v =
      then_well (needs_well (called (outcomes.called F (names C) v.hidden (site_of C) function args v.outputs)))
      (λ c. then_well (change_well (λ u. record u { outputs = c.outputs }) (λ u. refl)) (λ u. give_well c.given))

  -- a call by its name: the arguments are words, no atoms
  call_well : (name : List ℕ) (args : List (List ℕ)) → Well (call_step F C name args)
  call_well name args = record {
    stays = λ w b i. after_well b [] (called_step F C args (function_of name) w w) (fits_bare b [] refl)
        ((called_well args (function_of name) w).stays w b i);
  }

  -- the value of a call is put
  value_well : (name : List ℕ) (args : List (List ℕ)) → Well (value_step F C name args)
  value_well name args = then_well (call_well name args) (λ given. bytes_well (unwrap_or given []))

  -- whether a call has a value is given without an atom
  has_well : (name : List ℕ) (args : List (List ℕ)) → Well (has_value F C name args)
  has_well name args = then_well (call_well name args) (λ given. give_well (is_some given))

  -- the words of arguments, which end as those of a command do
  words_well : (w : World) (b : Bool) (work : Worked (Unit {0})) → w.is_in_file ≡ b → WellDone b work → WellDone b (words_of F C w work)
  words_well w b (Goes atoms u v) i e = (needs_well (argument_words F C atoms)).stays v b e.1
  words_well w b (Refuses atoms fault) i e = (needs_well (all_taken F C nothing_cut atoms >>- λ c. Is (Err fault))).stays w b i
  words_well w b (Waits atoms) i e = (needs_well (all_taken F C nothing_cut atoms >>- λ c. Unasked)).stays w b i

  -- so a step as arguments is `Well` if the step is
  arguments_well : (step : Step (Unit {0})) → Well step → Well (arguments F C step)
  arguments_well step e = record { stays = λ w b i. words_well w b (step w) i (e.stays w b i) }

  -- the name of a file with these words
  named_file_well : (list : List (List ℕ)) → Well (named_file F C list)
  named_file_well [] = puts_well [] refl
  named_file_well (word ∷ list) = then_well (draw_well (response_text (word ∷ list)) Anew (codes ".args"))
      (λ path. puts_well (map Put (at_sign ∷ path) ++ Break ∷ []) (broken_bare (at_sign ∷ path)))

  -- a file of %@ is a whole stretch
  one_file : (atoms : List Atom) → Unfiled atoms → Stretched (Break ∷ FileFrom ∷ atoms ++ Break ∷ FileTo ∷ [])
  one_file atoms e = record {
    stretches = Filed atoms ∷ [];
    whole = ap (λ (b : Bool). b || false) e;
    same =
        append-nil (Break ∷ FileFrom ∷ atoms ++ Break ∷ FileTo ∷ []);
  }

  -- a step whose words go to a file is well around that file
  filed_well : (work : Worked (Unit {0})) → WellDone true work → WellDone false (filed F C work)
  filed_well (Goes atoms u v) e =
      after_well false (Break ∷ FileFrom ∷ atoms ++ Break ∷ FileTo ∷ [])
      ((needs (file_words F C atoms) >>= named_file F C) (record v { is_in_file = false }))
      (one_file atoms e.0.0, even_file atoms e.0.1)
      ((then_well (needs_well (file_words F C atoms)) named_file_well).stays (record v { is_in_file = false }) false refl)
  filed_well (Refuses atoms fault) e = stops_file atoms e
  filed_well (Waits atoms) e = stops_file atoms e

  -- a step as the words of a file is `Well` where no file is open
  file_well : (step : Step (Unit {0})) (w : World) → Well step → WellDone false (file_step F C step w)
  file_well step w e = filed_well (step (record w { is_in_file = true })) (e.stays (record w { is_in_file = true }) true refl)

  -- a step that begins a file if none is open, in either case
  chosen_as : (step : Step (Unit {0})) (w : World) → Well step → (from b : Bool) → w.is_in_file ≡ b
      → WellDone b ((if from && not w.is_in_file then file_step F C step else step) w)
  chosen_as step w e false b i = e.stays w b i
  chosen_as step w e true true i = subst (λ (inside : Bool). WellDone true ((if not inside then file_step F C step else step) w)) (sym i)
      (e.stays w true i)
  chosen_as step w e true false i = subst (λ (inside : Bool). WellDone false ((if not inside then file_step F C step else step) w)) (sym i)
      (file_well step w e)

  -- the same as one step
  chosen_well : (step : Step (Unit {0})) → Well step
      → Well (look (starts_file F C) >>= λ starts. if starts then file_step F C step else step)
  chosen_well step e = record {
    stays = λ w b i. after_well b [] ((if starts_file F C w then file_step F C step else step) w)
        (fits_bare b [] refl) (chosen_as step w e C.from_file b i);
  }

  -- a named text, if there is one, is `Well` where what may be opened is
  named_well : (items : Option Items) (levels : Levels) → WellLevels levels → Well (named F C items levels)
  named_well None levels e = puts_well [] refl
  named_well (Some items) levels e = opened_well levels (λ deeper inside. deeper items) e (λ deeper inside goes following. goes items)

  -- X for each hit
  each_well : (p : Pattern) (X : List ℕ → Levels → Step (Unit {0})) (levels : Levels) → WellLevels levels
      → ((rest : List ℕ) (inside : Levels) → WellLevels inside → Well (X rest inside)) → (is : List ℕ) → Well (each_hit F C p X levels is)
  each_well p X levels e goes [] = puts_well [] refl
  each_well p X levels e goes (i ∷ is) =
      let rest : List ℕ = drop (length (matching p).name) (name_at (names C) i) in
      then_well (look_well (λ w. is_hit (names C) w.hidden (matching p) i)) (λ hit. then_well
      (if_well hit (then_well (opened_well levels (λ deeper inside. X rest inside) e
      (λ deeper inside d following. goes rest inside following))
      (λ u. puts_well (Break ∷ word_of (argument C i)) (word_bare (argument C i)))) (puts_well [] refl))
      (λ u. each_well p X levels e goes is))

  -- X once, or for each hit, or the other alternatives
  worked_well : (found : Option Asked) (own : Bool) (X : List ℕ → Levels → Step (Unit {0})) (levels : Levels) (star : List ℕ)
      (others : Step (Unit {0})) → WellLevels levels
      → ((rest : List ℕ) (inside : Levels) → WellLevels inside → Well (X rest inside)) → Well others
      → Well (worked F C found own X levels star others)
  worked_well None own X levels star others e goes f = f
  worked_well (Some (HasSwitch p)) true X levels star others e goes f = each_well p X levels e goes (places F C)
  worked_well (Some (HasSwitch p)) false X levels star others e goes f = goes star levels e
  worked_well (Some (HasSuffix word)) true X levels star others e goes f = goes star levels e
  worked_well (Some (HasSuffix word)) false X levels star others e goes f = goes star levels e
  worked_well (Some (HasLanguage word)) true X levels star others e goes f = goes star levels e
  worked_well (Some (HasLanguage word)) false X levels star others e goes f = goes star levels e
  worked_well (Some (HasResult name items)) true X levels star others e goes f = goes star levels e
  worked_well (Some (HasResult name items)) false X levels star others e goes f = goes star levels e

  -- each row of the table is `Well`, and so is what its braces, tests and named texts give
  leaf_well : (leaf : Leaf) → Well (leaf_step F C leaf)
  leaf_well Percent = puts_well (Put percent ∷ []) refl
  leaf_well InputName = then_well (input_well F C C.input) (λ name. bytes_well name)
  leaf_well BaseStem = then_well (input_well F C C.input) (λ name. bytes_well (stem name))
  leaf_well BaseName = then_well (input_well F C C.input) (λ name. bytes_well (base name))
  leaf_well Removed = puts_well (Marked AsRemoved ∷ []) refl
  leaf_well Output = puts_well (Marked AsOutput ∷ []) refl
  leaf_well NoOutput = puts_well (Without ∷ []) refl
  leaf_well Outputs = outputs_well F C C.input
  leaf_well ObjectSuffix = bytes_well (codes ".o")
  leaf_well FoundFile = puts_well (Marked AsFile ∷ []) refl
  leaf_well FoundScript = puts_well (Marked AsScript ∷ []) refl
  leaf_well Accumulated = look_puts_well (λ w. words w.accumulated) (λ w. words_bare w.accumulated)
  leaf_well AssemblerOptions = puts_well (words C.assembler) (words_bare C.assembler)
  leaf_well PreprocessorOptions = puts_well (words C.preprocessor) (words_bare C.preprocessor)
  leaf_well Directories = then_well (needs_well (known (folder_options F C.prefixes)))
      (λ options. puts_well (flat_map broken_word options) (flat_bare broken_word broken_bare options))

  mutual
    -- each item, by its kind
    item_well : (item : Item) (levels : Levels) (star : List ℕ) → WellLevels levels → Well (item_step F C item levels star)
    item_well (Plain b) levels star e = puts_well (Put b ∷ []) refl
    item_well (Escape b) levels star e = puts_well (Put b ∷ []) refl
    item_well Blank levels star e = puts_well (Break ∷ []) refl
    item_well Newline levels star e = puts_well (Break ∷ End ∷ []) refl
    item_well Pipe levels star e = puts_well (Piped ∷ []) refl
    item_well (tree.Leaf leaf) levels star e = leaf_well leaf
    item_well (TempName kind suffix) levels star e = temp_well kind suffix
    item_well (Accumulate option) levels star e = change_well (λ w. record w { accumulated = added option w.accumulated }) (λ w. refl)
    item_well (UserError text) levels star e = refuse_well (fault.UserError text)
    item_well (Notice text) levels star e = change_well (λ w. record w { notices = w.notices ++ noted text ∷ [] }) (λ w. refl)
    item_well (NamedText name) levels star e = named_well (tree_named F C name) levels e
    item_well (BuiltinText name) levels star e = named_well (tree_named F C name) levels e
    item_well (Hide p) levels star e = change_well (λ w. record w { hidden = hidden_by (matching p) (names C) w.hidden }) (λ w. refl)
    item_well (Function name items) levels star e =
        opened_well levels (λ deeper inside. arguments F C (items_step F C items inside star) >>= value_step F C name) e
        (λ deeper inside d following. then_well (arguments_well (items_step F C items inside star)
        (items_well items inside star following)) (λ args. value_well name args))
    item_well (Braces brace) levels star e = brace_well brace levels star e
    item_well Star levels star e = bytes_well star
    item_well (FailureFile brace) levels star e =
        opened_well levels (λ deeper inside. puts (From ∷ []) >> brace_step F C brace inside star >> puts (Break ∷ To ∷ [])) e
        (λ deeper inside d following. failure_well (brace_step F C brace inside star) (brace_well brace inside star following))
    item_well (ArgumentsFile brace) levels star e =
        opened_well levels (λ deeper inside. look (starts_file F C) >>= λ starts. if starts
        then file_step F C (brace_step F C brace inside star) else brace_step F C brace inside star) e
        (λ deeper inside d following. chosen_well (brace_step F C brace inside star) (brace_well brace inside star following))

    -- items one after another, each counted
    items_well : (items : Items) (levels : Levels) (star : List ℕ) → WellLevels levels → Well (items_step F C items levels star)
    items_well none levels star e = puts_well [] refl
    items_well (more span item items) levels star e =
        then_well (then_well counted_well (λ u. item_well item levels star e)) (λ u. items_well items levels star e)

    -- what is in braces: the switches that match, or alternatives
    brace_well : (brace : Brace) (levels : Levels) (star : List ℕ) → WellLevels levels → Well (brace_step F C brace levels star)
    brace_well (Emit patterns) levels star e = look_puts_well (λ w. emitted F C patterns w.hidden) (λ w. emitted_bare patterns w.hidden)
    brace_well (Choose choices) levels star e = choices_well choices levels star e

    -- the alternatives, by their tests
    choices_well : (choices : Choices) (levels : Levels) (star : List ℕ) → WellLevels levels → Well (choices_step F C choices levels star)
    choices_well no_choice levels star e = puts_well [] refl
    choices_well (choice span no_test items choices) levels star e = items_well items levels star e
    choices_well (choice span (test place negated asked tests) items choices) levels star e =
        then_well (first_well (test place negated asked tests) levels star e)
        (λ found. worked_well found (has_star items) (λ rest inside. items_step F C items inside rest) levels star
        (choices_step F C choices levels star) e (λ rest inside d. items_well items inside rest d) (choices_well choices levels star e))

    -- the tests of an alternative, up to the first that is true
    first_well : (tests : Tests) (levels : Levels) (star : List ℕ) → WellLevels levels → Well (first_true F C tests levels star)
    first_well no_test levels star e = give_well None
    first_well (test span negated asked tests) levels star e =
        then_well (truth_well asked levels star e) (λ holds. if_well (turned negated holds) (give_well (Some asked))
        (first_well tests levels star e))

    -- what a test asks
    truth_well : (asked : Asked) (levels : Levels) (star : List ℕ) → WellLevels levels → Well (truth F C asked levels star)
    truth_well (HasSwitch p) levels star e = look_well (λ w. nat_lt 0 (length (hits (names C) w.hidden (matching p))))
    truth_well (HasSuffix word) levels star e = give_well (is_word word (suffix_of C.input))
    truth_well (HasLanguage word) levels star e = give_well (is_word word (language_of C.input))
    truth_well (HasResult name items) levels star e =
        opened_well levels (λ deeper inside. arguments F C (items_step F C items inside star) >>= has_value F C name) e
        (λ deeper inside d following. then_well (arguments_well (items_step F C items inside star)
        (items_well items inside star following)) (λ args. has_well name args))

  -- what items mean in each of n open parts is `Well`
  levels_well : (n : ℕ) → WellLevels (levels_left F C n)
  levels_well zero = tt
  levels_well (suc n) = (λ items. items_well items (levels_left F C n) [] (levels_well n), levels_well n)

  -- a whole text, whose last word and command end, is `Well`
  text_well : (items : Items) (n : ℕ) → Well (items_step F C items (levels_left F C n) [] >> puts (Break ∷ End ∷ []))
  text_well items n = then_well (items_well items (levels_left F C n) [] (levels_well n)) (λ u. puts_well (Break ∷ End ∷ []) refl)

  -- a whole text is made of atoms and whole files
  goes_stretched : (work : Worked (Unit {0})) (xs : List Atom) (w : World) → WellDone false work → work ≡ Goes xs tt w → Stretched xs
  goes_stretched (Goes ys u v) xs w e is = let same : ys ≡ xs = cc in subst Stretched same e.0.0
  goes_stretched (Refuses ys fault) xs w e is = absurd cc
  goes_stretched (Waits ys) xs w e is = absurd cc

  -- the atoms of a text that is run to its end are a list of atoms and whole files
  pub are_stretched : (items : Items) (xs : List Atom) (w : World) → atoms F C items ≡ Goes xs tt w → Stretched xs
  are_stretched items xs w e = goes_stretched (atoms F C items) xs w ((text_well items most_open).stays (start F C) false refl) e

  -- atoms that fit close what they open: each %W and each file
  goes_as : (b : Bool) (atoms : List Atom) → Fits b atoms → (enclosed : Enclosed) → open_following atoms enclosed 0 ≡ Some 0
  goes_as b atoms e Failure = e.1 0
  goes_as b atoms e File = shaped_open b atoms e.0

  -- atoms before a refusal close nothing that they did not open
  stops_as : (b : Bool) (atoms : List Atom) → Stops b atoms → (enclosed : Enclosed) → is_some (open_following atoms enclosed 0) ≡ true
  stops_as b atoms e Failure = e.1 0
  stops_as b atoms e File = halted_open b atoms e.0

  -- its %W and files begin and end in pairs
  balanced_as : (b : Bool) (work : Worked (Unit {0})) → WellDone b work → Balanced work
  balanced_as b (Goes atoms u v) e = λ enclosed. goes_as b atoms e.0 enclosed
  balanced_as b (Refuses atoms fault) e = λ enclosed. stops_as b atoms e enclosed
  balanced_as b (Waits atoms) e = λ enclosed. stops_as b atoms e enclosed

  -- what is open is closed: for a whole text, and for the items of a part
  pub text_balanced : (items : Items) → Balanced (atoms F C items)
  text_balanced items = balanced_as false (atoms F C items) ((text_well items most_open).stays (start F C) false refl)

  -- the same for the items of a part, with the value of `%*`
  pub part_balanced : (items : Items) (n : ℕ) (star : List ℕ) (w : World) → Balanced (items_step F C items (levels_left F C n) star w)
  part_balanced items n star w =
      balanced_as w.is_in_file (items_step F C items (levels_left F C n) star w)
      ((items_well items (levels_left F C n) star (levels_well n)).stays w w.is_in_file refl)
