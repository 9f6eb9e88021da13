use Rattle.drv_args.specs.declared.option_table.Effect.TheVariants as effect
use Rattle.drv_cc.specs.Front.{added_items, added_switches, first_words, folder_words, folders, has_empty_end, has_folders, is_set}
use Rattle.drv_cc.specs.Front.{library_words, macro_word, macro_words, needs_threads, pieces, prefixes, program_items, thread_words}
use Rattle.drv_cc.specs.Front.{wrapper_end}
use Rattle.drv_cc.specs.Front.{wrapper_words, wrapper_words_of}
use Rattle.drv_cc.specs.Items.{begins, is_among, same}
use Rattle.drv_cc.specs.Kept.{has, is_vendors, last_argument}
use Rattle.drv_cc.specs.Levels.{check_words, debug_words, debug_words_of, debugging_of, is_checked, library_word, needs_leak_library}
use Rattle.drv_cc.specs.Levels.{needs_undefined_library, no_debugging, toggled}
use Rattle.drv_cc.specs.LineItems.{alone, item_of}
use Rattle.drv_cc.specs.Said.{IsAdded, a_folder, own_word, threads}
use Rattle.drv_cc.specs.SideFiles.{aux_asked, aux_words, base_words, base_words_of, beginning, dependencies_asked, dependency_words}
use Rattle.drv_cc.specs.SideFiles.{end_words}
use Rattle.drv_cc.specs.SideFiles.{given_dependencies, given_end, is_end, is_some, named_kinds, named_words, only, other_suffixes, saves}
use Rattle.drv_cc.specs.SideFiles.{side_words}
use Rattle.drv_cc.specs.SideFiles.{source_base, sources, suffix, suffix_words, with_value, worked}
use Rattle.drv_cc.specs.Table.{texts}
use Rattle.drv_cc.specs.declared.answer.Surroundings.{Surroundings}
use Rattle.drv_cc.specs.declared.item.Item.{Item}
use Rattle.std.proofs.Common.{◌≡◌, ◌==◌, ◌||◌, Bool, List, [], ◌∷◌, ◌++◌, None, Option, Some, codes, false, if◌then◌else◌, length, map}
use Rattle.std.proofs.Common.{nat_lt, refl}
use Rattle.std.proofs.Common.{true, ℕ}
use Rattle.std.proofs.lemmas.List.Elements.{All-append, All-cons, All-contains_itself, All-map, All-nil, All-weaker, Contains-append_left}
use Rattle.std.proofs.lemmas.List.Elements.{Contains-append_right}
use Rattle.std.specs.List.{All, Contains, flat_map, list_all}

-- For line_is_said (src/laws.rt): what is added to a line is a word of the spec file's own, -pthread, or a folder.
-- Names: `items` is the items of the line that stay. `around` is the compiler and its folders. `Own words` says that each word is one that
-- only the spec file reads. `value` is what follows such a word. The other names are those of specs/Front.antt and specs/SideFiles.antt.

-- each word is one that only the spec file reads
abbrev IsOwn : List ℕ → Type 0
IsOwn word = begins (codes "--gdrv-") word ≡ true

-- so are all words
abbrev Own : List (List ℕ) → Type 0
Own words = All IsOwn words

-- No word.
none : Own []
none = All-nil IsOwn

-- One word.
single : (word : List ℕ) → IsOwn word → Own (word ∷ [])
single word own = All-cons IsOwn word [] own none

-- The words of two lists.
both : (xs ys : List (List ℕ)) → Own xs → Own ys → Own (xs ++ ys)
both = All-append IsOwn

-- The words that each element of a list gives.
each : {X : Type 0} (f : X → List (List ℕ)) → ((x : X) → Own (f x)) → (xs : List X) → Own (flat_map f xs)
each f own [] = none
each f own (x ∷ xs) = both (f x) (flat_map f xs) (own x) (each f own xs)

-- Words that are there or not.
where_so : (test : Bool) (words : List (List ℕ)) → Own words → Own (if test then words else [])
where_so true words own = own
where_so false words own = none

-- A word with a value, unless that is empty.
valued : (word value : List ℕ) → IsOwn (word ++ value) → Own (with_value word value)
valued word value own = where_so (nat_lt 0 (length value)) ((word ++ value) ∷ []) (single (word ++ value) own)

-- Folders, libraries, the wrapper and macros.

-- The words of -wrapper.
wrapper : (argument : Option (List ℕ)) → Own (wrapper_words_of argument)
wrapper None = none
wrapper (Some argument) =
    both (flat_map (with_value (codes "--gdrv-wrapper=")) (pieces argument)) (wrapper_end argument)
    (each (with_value (codes "--gdrv-wrapper=")) (λ piece. valued (codes "--gdrv-wrapper=") piece refl) (pieces argument))
    (where_so (has_empty_end argument) (codes "--gdrv-wrapper=" ∷ []) (single (codes "--gdrv-wrapper=") refl))

-- The word of a macro.
macro : (i : Item) → Own (macro_word i)
unfolding macro_word
macro i = where_so (same i.name (codes "-D")) ((codes "--gdrv-define=" ++ i.argument) ∷ [])
    (single (codes "--gdrv-define=" ++ i.argument) refl)

-- The words that precede the others.
firsts : (around : Surroundings) (items : List Item) → Own (first_words around items)
firsts around items =
    both (folder_words items ++ flat_map library_words (folders around.library_path) ++ wrapper_words items) (macro_words items)
    (both (folder_words items ++ flat_map library_words (folders around.library_path)) (wrapper_words items)
    (both (folder_words items) (flat_map library_words (folders around.library_path))
    (where_so (has_folders items) (codes "--gdrv-dirs" ∷ []) (single (codes "--gdrv-dirs") refl))
    (each library_words (λ folder. single (codes "--gdrv-lib=" ++ folder) refl) (folders around.library_path)))
    (wrapper (last_argument (codes "-wrapper") items)))
    (where_so (is_vendors items) (flat_map macro_word items) (each macro_word macro items))

-- Side files.

-- The word for suffixes that -x makes those of sources.
suffixes : (names : List (List ℕ)) → Own (suffix_words names)
suffixes [] = none
suffixes (end ∷ others) = by (list_all (same end) others)
  where
    -- Plan: `by` goes by whether all suffixes are the same.
    by : (t : Bool) → Own (if t then (codes "--gdrv-suffix=" ++ end) ∷ [] else codes "--gdrv-suffixes" ∷ [])
    by true = single (codes "--gdrv-suffix=" ++ end) refl
    by false = single (codes "--gdrv-suffixes") refl

-- The word for the end of a given name.
ends : (name : List ℕ) (end : Option (List ℕ)) → Own (end_words name end)
ends name None = none
ends name (Some end) = where_so (is_end name end) (with_value (codes "--gdrv-ext=") end) (valued (codes "--gdrv-ext=") end refl)

-- The words for the only source.
only_base : (items : List Item) (name : List ℕ) (given : Option (List ℕ)) → Own (base_words_of items name given)
only_base items name None = All-cons IsOwn _ (with_value (codes "--gdrv-ext=") (suffix name)) refl
    (valued (codes "--gdrv-ext=") (suffix name) refl)
only_base items name (Some given) = All-cons IsOwn (codes "--gdrv-base=" ++ given) (end_words given (given_end items)) refl
    (ends given (given_end items))

-- The words for all sources.
bases : (items : List Item) (names : List (List ℕ)) (name : Option (List ℕ)) → Own (base_words items names name)
bases items names None = suffixes (other_suffixes names)
bases items names (Some name) = only_base items name (source_base items)

-- The word for the file of dependencies, by a given name.
given_file : (items : List Item) (given : Option (List ℕ)) → Own (given_dependencies items given)
given_file items None = none
given_file items (Some given) = All-cons IsOwn _ [] refl none

-- The same, by the output.
dependency_file : (items : List Item) (output : Option (List ℕ)) → Own (dependency_words items output)
dependency_file items None = given_file items (source_base items)
dependency_file items (Some output) = All-cons IsOwn _ [] refl none

-- The word for further files.
further_files : (items : List Item) (name : Option (List ℕ)) → Own (aux_words items name)
further_files items None = none
further_files items (Some name) = All-cons IsOwn _ [] refl none

-- The words for the names of the sources' side files.
source_files : (items : List Item) → Own (base_words items (sources (named_kinds items) items) (only (sources (named_kinds items) items)))
source_files items = bases items (sources (named_kinds items) items) (only (sources (named_kinds items) items))

-- All words of a line that has a source.
named_files : (items : List Item) → Own (named_words items)
named_files items =
    both _ (aux_asked items)
    (both _ (dependencies_asked items)
    (both (with_value (codes "--gdrv-dir=") (beginning items)) _ (valued (codes "--gdrv-dir=") (beginning items) refl) (source_files items))
    (where_so (has (codes "-MD") items || has (codes "-MMD") items) (dependency_words items (last_argument (codes "-o") items))
    (dependency_file items (last_argument (codes "-o") items))))
    (where_so (saves items || has (codes "-gsplit-dwarf") items) (aux_words items (only (sources worked items)))
    (further_files items (only (sources worked items))))

-- All words for side files.
sides : (items : List Item) → Own (side_words items)
sides items = where_so (is_some (sources worked items)) (named_words items) (named_files items)

-- Debugging and checks.

-- The words for level and version.
levels : (level version : ℕ) → Own (debug_words_of level version)
levels level version = by (level == 48)
  where
    -- Plan: `by` goes by whether the level is 0.
    by : (t : Bool) → Own (if t then [] else (codes "--gdrv-level=" ++ level ∷ []) ∷ (codes "--gdrv-dwarf=" ++ version ∷ []) ∷ [])
    by true = none
    by false = All-cons IsOwn (codes "--gdrv-level=" ++ level ∷ []) ((codes "--gdrv-dwarf=" ++ version ∷ []) ∷ []) refl
        (single (codes "--gdrv-dwarf=" ++ version ∷ []) refl)

-- The word for the library of a check.
library : (needed : Bool) (name : List ℕ) → Own (library_word needed name)
library true name = single (codes "--gdrv-san=" ++ name) refl
library false name = none

-- The words for all libraries of checks.
checks : (items : List Item) → Own (check_words items)
checks items =
    both _ (library_word (needs_undefined_library items) (codes "ubsan"))
    (both _ (library_word (needs_leak_library items) (codes "lsan"))
    (both _ (library_word (is_checked items (codes "thread")) (codes "tsan"))
    (both (library_word (is_checked items (codes "address")) (codes "asan"))
    (library_word (is_checked items (codes "hwaddress")) (codes "hwasan")) (library (is_checked items (codes "address")) (codes "asan"))
    (library (is_checked items (codes "hwaddress")) (codes "hwasan")))
    (library (is_checked items (codes "thread")) (codes "tsan"))) (library (needs_leak_library items) (codes "lsan")))
    (library (needs_undefined_library items) (codes "ubsan"))

-- All words that are added as switches.
switches : (around : Surroundings) (items : List Item) → Own (added_switches around items)
switches around items =
    both (first_words around items ++ side_words items ++ debug_words items) (check_words items)
    (both (first_words around items ++ side_words items) (debug_words items)
    (both (first_words around items) (side_words items) (firsts around items) (sides items))
    (levels (toggled (debugging_of no_debugging items)) (debugging_of no_debugging items).version)) (checks items)

-- All that is added.

module _ (around : Surroundings) where
  -- All folders of the surroundings.
  abbrev all_folders : List (List ℕ)
  all_folders = folders around.compiler_path ++ around.copies ++ around.folders

  -- Each folder of a part of them is added by its option.
  prefixed : (option : List ℕ) (part : List (List ℕ)) → is_among (texts (codes "-B --gdrv-path= --gdrv-copies=")) option ≡ true
      → ((folder : List ℕ) → Contains part folder → Contains all_folders folder)
      → All (IsAdded around) (map (item_of effect.Prefix option) part)
  prefixed option part is within =
      All-map (IsAdded around) (item_of effect.Prefix option) part
      (All-weaker (Contains part) (λ folder. IsAdded around (item_of effect.Prefix option folder))
      (λ folder is_there. a_folder is (within folder is_there)) part (All-contains_itself part))

  -- All folders of programs and of copies.
  all_prefixes : All (IsAdded around) (prefixes around)
  all_prefixes =
      All-append (IsAdded around) (map (item_of effect.Prefix (codes "--gdrv-path=")) (folders around.compiler_path)
      ++ map (item_of effect.Prefix (codes "--gdrv-copies=")) around.copies)
      (map (item_of effect.Prefix (codes "-B")) around.folders)
      (All-append (IsAdded around) (map (item_of effect.Prefix (codes "--gdrv-path=")) (folders around.compiler_path))
      (map (item_of effect.Prefix (codes "--gdrv-copies=")) around.copies)
      (prefixed (codes "--gdrv-path=") (folders around.compiler_path) refl
      (λ folder is. Contains-append_left (folders around.compiler_path ++ around.copies) around.folders folder
      (Contains-append_left (folders around.compiler_path) around.copies folder is)))
      (prefixed (codes "--gdrv-copies=") around.copies refl
      (λ folder is. Contains-append_left (folders around.compiler_path ++ around.copies) around.folders folder
      (Contains-append_right (folders around.compiler_path) around.copies folder is))))
      (prefixed (codes "-B") around.folders refl (Contains-append_right (folders around.compiler_path ++ around.copies) around.folders))

  -- The folders where programs are looked for.
  programs : (items : List Item) → All (IsAdded around) (program_items around items)
  programs items = by (has_folders items || is_set around.compiler_path)
    where
      -- Plan: `by` goes by whether folders of programs are added.
      by : (t : Bool) → All (IsAdded around) (if t then prefixes around else [])
      by true = all_prefixes
      by false = All-nil (IsAdded around)

  -- The switch for threads.
  with_threads : (items : List Item) → All (IsAdded around) (map (alone effect.Switch) (thread_words items))
  with_threads items = by (needs_threads items)
    where
      -- Plan: `by` goes by whether the line needs threads.
      by : (t : Bool) → All (IsAdded around) (map (alone effect.Switch) (if t then codes "-pthread" ∷ [] else []))
      by true = All-cons (IsAdded around) (alone effect.Switch (codes "-pthread")) [] threads (All-nil (IsAdded around))
      by false = All-nil (IsAdded around)

  -- what is added to a line is one of the three
  pub all_are_added : (items : List Item) → All (IsAdded around) (added_items around items)
  all_are_added items =
      All-append (IsAdded around) (map (alone effect.Switch) (thread_words items) ++ program_items around items)
      (map (alone effect.Switch) (added_switches around items))
      (All-append (IsAdded around) (map (alone effect.Switch) (thread_words items)) (program_items around items) (with_threads items)
      (programs items))
      (All-map (IsAdded around) (alone effect.Switch) (added_switches around items)
      (All-weaker IsOwn (λ word. IsAdded around (alone effect.Switch word)) (λ word own. own_word own) (added_switches around items)
      (switches around items)))
