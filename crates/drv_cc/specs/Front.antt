use Rattle.drv_args.specs.declared.items.Item.{Item as LineItem}
use Rattle.drv_args.specs.declared.option_table.Effect.TheVariants as effect
use Rattle.drv_cc.specs.Asked.{is_asked}
use Rattle.drv_cc.specs.Children.{child_words, folder_text, given_targets, given_text, machine_words, own_values, told}
use Rattle.drv_cc.specs.Items.{is_among, items_of, same}
use Rattle.drv_cc.specs.Kept.{effective_items, has, is_file_role, is_vendors, last_argument, refusals}
use Rattle.drv_cc.specs.Levels.{check_words, debug_words}
use Rattle.drv_cc.specs.LineItems.{alone, item_of, line_item}
use Rattle.drv_cc.specs.SideFiles.{assembled, beginning, compiled, inputs, link_beginning, side_words, sources, stops, with_value}
use Rattle.drv_cc.specs.Table.{texts}
use Rattle.drv_cc.specs.declared.answer.Answer.TheVariants.{Ask, Refuse, Run}
use Rattle.drv_cc.specs.declared.answer.Answer.{Answer}
use Rattle.drv_cc.specs.declared.answer.Stages.TheVariants.{All, AllOfC, Link, Sources, SourcesOfC}
use Rattle.drv_cc.specs.declared.answer.Stages.{Stages}
use Rattle.drv_cc.specs.declared.answer.Surroundings.{Surroundings}
use Rattle.drv_cc.specs.declared.answer.Variable.{Variable}
use Rattle.drv_cc.specs.declared.item.Item.{Item}
use Rattle.drv_cc.specs.declared.refusal.Refusal.{Refusal}
use Rattle.drv_options.specs.declared.option.Role.TheVariants as role
use Rattle.drv_options.specs.declared.option.Role.{Role}
use Rattle.drv_words.specs.Bytes.{colon, comma, single_quote, space}
use Rattle.drv_words.specs.FileNames.{stem}
use Rattle.std.specs.List.{ends_with, filter, filter_map, flat_map, list_any, slice_split}
use Rattle.std.specs.Prelude.{map, nat_eq, nat_lt, not, true, ℕ}
use Rattle.std.specs.Prelude.{◌==◌, ◌&&◌, ◌||◌, Bool, List, [], ◌∷◌, ◌++◌, None, Option, Some, codes, drop, false, if◌then◌else◌, length}

-- A line of gcc as a line of the driver: a question for the compiler, refusals, or the items of what stays of the line and of what gcc's
-- driver adds to it (GCC manual, "Invoking GCC"). No words are made of them: an empty argument is one, and what is added is a switch of its
-- name.
-- For clauses of src/quoting.rt, src/line_adding.rt and others. drv_compile cites it too. The texts of drv_gcc (specs/SpecFile.antt,
-- specs/Fixed.antt) read its words --gdrv-..: a word that changes here changes there too.

-- Added: threads, where an option needs them ("C Dialect Options", -fopenmp; "Optimize Options", -ftree-parallelize-loops).

-- whether -ftree-parallelize-loops= asks for more than one thread: no number, 0 and 1 don't
abbrev pub is_several : Option (List ℕ) → Bool
is_several None = false
is_several (Some number) = not (is_among ([] ∷ codes "0" ∷ codes "1" ∷ []) number)

-- whether an option of the line needs threads, as gcc's driver says it
abbrev pub needs_threads : List Item → Bool
needs_threads items =
    has (codes "-fopenmp") items || has (codes "-fopenacc") items || has (codes "-fgnu-tm") items
    || is_several (last_argument (codes "-ftree-parallelize-loops=") items)

-- the switch -pthread, where the line needs threads
abbrev pub thread_words : List Item → List (List ℕ)
thread_words items = if needs_threads items then codes "-pthread" ∷ [] else []

-- Added: the folders of COMPILER_PATH and LIBRARY_PATH ("Environment Variables"); an empty one is the folder of the call.

-- a folder of such a path: ./ for an empty one, since a prefix of no text would name no folder
abbrev pub named_folder : List ℕ → List ℕ
named_folder [] = codes "./"
named_folder (b ∷ folder) = b ∷ folder

-- the folders of a path whose parts have a colon between them; none where the variable isn't set
abbrev pub folders : Option (List ℕ) → List (List ℕ)
folders None = []
folders (Some path) = map named_folder (slice_split (λ b. b == colon) path)

-- whether a variable is set, be it empty
abbrev pub is_set : Option (List ℕ) → Bool
is_set None = false
is_set (Some value) = true

-- the word for a folder of LIBRARY_PATH: the texts put it after the line's own -L
abbrev pub library_words : List ℕ → List (List ℕ)
library_words folder = (codes "--gdrv-lib=" ++ folder) ∷ []

-- a folder as the line's own -B would give it
abbrev pub prefix : List ℕ → LineItem
prefix = item_of effect.Prefix (codes "-B")

-- a folder of COMPILER_PATH has programs and headers, and neither libraries nor start files: a prefix with a switch of its own ("gcc.cc",
-- process_command, where it is added to exec_prefixes and include_prefixes alone)
abbrev pub program_prefix : List ℕ → LineItem
program_prefix = item_of effect.Prefix (codes "--gdrv-path=")

-- a folder with copies of vendors' spec files, which has nothing else: a prefix with a switch of its own
abbrev pub copy_prefix : List ℕ → LineItem
copy_prefix = item_of effect.Prefix (codes "--gdrv-copies=")

-- programs are looked for in the compiler's own folders last, and spec files in the copies before these
abbrev pub prefixes : Surroundings → List LineItem
prefixes around =
    map program_prefix (folders around.compiler_path) ++ map copy_prefix around.copies ++ map prefix around.folders

-- whether the line has -B or names a vendor's spec file: then start files are looked for in the compiler's own folders last too
abbrev pub has_folders : List Item → Bool
has_folders items = has (codes "-B") items || is_vendors items

-- the word by which the texts name those folders of start files
abbrev pub folder_words : List Item → List (List ℕ)
folder_words items = if has_folders items then codes "--gdrv-dirs" ∷ [] else []

-- the folders where programs are looked for beside those of the line, where -B, a spec file or COMPILER_PATH asks for it
abbrev pub program_items : Surroundings → List Item → List LineItem
program_items around items = if has_folders items || is_set around.compiler_path then prefixes around else []

-- Added: the words that -wrapper puts before each command ("Overall Options", -wrapper; "gcc.cc", insert_wrapper: several commas are one,
-- and the last word may be empty).

-- the parts of an argument between its commas
abbrev pub pieces : List ℕ → List (List ℕ)
pieces argument = slice_split (λ b. b == comma) argument

-- whether the last word of -wrapper is empty: gcc keeps it then
abbrev pub has_empty_end : List ℕ → Bool
has_empty_end argument = length argument == 0 || ends_with nat_eq argument (codes ",")

-- the empty last word of -wrapper, where there is one
abbrev pub wrapper_end : List ℕ → List (List ℕ)
wrapper_end argument = if has_empty_end argument then codes "--gdrv-wrapper=" ∷ [] else []

-- a word for each part of -wrapper that isn't empty, and for an empty last one
abbrev pub wrapper_words_of : Option (List ℕ) → List (List ℕ)
wrapper_words_of None = []
wrapper_words_of (Some argument) = flat_map (with_value (codes "--gdrv-wrapper=")) (pieces argument) ++ wrapper_end argument

-- the words of the last -wrapper: the driver puts them before each command
abbrev pub wrapper_words : List Item → List (List ℕ)
wrapper_words items = wrapper_words_of (last_argument (codes "-wrapper") items)

-- Added: the macros of a line that names a vendor's spec file, whose texts may test them (%{DNAME:..}; "gcc.cc", switch_matches).

-- the word for a macro of -D, with its value if it has one
unfoldable pub macro_word : Item → List (List ℕ)
macro_word i = if same i.name (codes "-D") then (codes "--gdrv-define=" ++ i.argument) ∷ [] else []

-- the words for the macros of a line that names a vendor's spec file
abbrev pub macro_words : List Item → List (List ℕ)
macro_words items = if is_vendors items then flat_map macro_word items else []

-- All that is added: each word is a switch.

-- the words for folders, libraries, the wrapper and macros, which precede the other words that are added
abbrev pub first_words : Surroundings → List Item → List (List ℕ)
first_words around items =
    folder_words items ++ flat_map library_words (folders around.library_path) ++ wrapper_words items ++ macro_words items

-- all words that are added as switches, in their order
abbrev pub added_switches : Surroundings → List Item → List (List ℕ)
added_switches around items = first_words around items ++ side_words items ++ debug_words items ++ check_words items

-- all items that gcc's driver would add to a line, or add in effect
abbrev pub added_items : Surroundings → List Item → List LineItem
added_items around items =
    map (alone effect.Switch) (thread_words items) ++ program_items around items ++ map (alone effect.Switch) (added_switches around items)

-- For the children: the linker's plugin calls the compiler again, with the switches of the line (GCC Internals, "LTO", "lto-wrapper"). Each
-- word is between single quotes.

-- a byte between single quotes: a quote ends them, is quoted alone, and begins them again
abbrev pub quoted_byte : ℕ → List ℕ
quoted_byte b = if b == single_quote then codes "'\\''" else b ∷ []

-- a word between single quotes, as a shell reads it
abbrev pub quoted : List ℕ → List ℕ
quoted word = single_quote ∷ flat_map quoted_byte word ++ single_quote ∷ []

-- words between quotes, with a blank between two: the form in which gcc's plugin reads a line
abbrev pub quoted_line : List (List ℕ) → List ℕ
quoted_line words = drop 1 (flat_map (λ word. space ∷ quoted word) words)

-- whether an item is a switch, known or not: the plugin gets these alone
abbrev pub is_switch : Role → Bool
is_switch role.Switch = true
is_switch role.Unknown = true
is_switch _ = false

-- whether an item is one that they get: a switch, or -v, which gcc counts as one
abbrev pub is_passed : Item → Bool
is_passed i = is_switch i.role || same i.name (codes "-v")

-- the words of the line's switches
abbrev pub switch_words : List Item → List (List ℕ)
switch_words items = flat_map child_words (filter is_passed items)

-- the words for how the names of side files begin; none where nothing leads them
abbrev pub dump_option : List ℕ → List (List ℕ)
dump_option lead = if nat_lt 0 (length lead) then codes "-dumpdir" ∷ lead ∷ [] else []

-- the folder and name for the side files: of a line that stops, those of its sources, and else of what the plugin compiles
abbrev pub dump_words : List Item → List (List ℕ)
dump_words items = if stops items then dump_option (beginning items) else codes "-dumpdir" ∷ link_beginning items ∷ []

-- the words that COLLECT_GCC_OPTIONS holds: `told` has what the compiler gives its children (Children.antt)
abbrev pub compiler_words : List (List ℕ) → List Item → List (List ℕ)
compiler_words told items = switch_words items ++ machine_words told ++ thread_words items ++ dump_words items

-- The pieces for the assembler, each between quotes: those of -Wa, between commas, and those of -Xassembler ("Assembler Options").

-- a byte of -Wa,: a comma ends a quoted piece and begins the next
abbrev pub piece_byte : ℕ → List ℕ
piece_byte b = if b == comma then codes "' '" else quoted_byte b

-- the argument of -Wa, as quoted pieces with a blank between two
abbrev pub quoted_pieces : List ℕ → List ℕ
quoted_pieces argument = single_quote ∷ flat_map piece_byte argument ++ single_quote ∷ []

-- what an item adds to COLLECT_AS_OPTIONS: its pieces for the assembler
abbrev pub piece_text : Item → List ℕ
piece_text i =
    if same i.name (codes "-Wa,") then space ∷ quoted_pieces i.argument
    else if same i.name (codes "-Xassembler") then space ∷ quoted i.argument else []

-- all pieces for the assembler, quoted, with a blank between two
abbrev pub assembler_line : List Item → List ℕ
assembler_line items = drop 1 (flat_map piece_text items)

-- a variable of the environment, by its name and value
abbrev pub variable : List ℕ → List ℕ → Variable
variable name value = record { name = name; value = value }

-- whether the line has pieces for the assembler: without them the variable isn't set
abbrev pub has_pieces : List Item → Bool
has_pieces items = has (codes "-Wa,") items || has (codes "-Xassembler") items

-- the variable that gives the pieces for the assembler to a link's children
abbrev pub piece_variables : List Item → List Variable
piece_variables items = variable (codes "COLLECT_AS_OPTIONS") (assembler_line items) ∷ []

-- the variable COLLECT_AS_OPTIONS, where the line has pieces for the assembler
abbrev pub assembler_variables : List Item → List Variable
assembler_variables items = if has_pieces items then piece_variables items else []

-- the variables that name the compiler and its line, by the words of that line
abbrev pub variables_by : Surroundings → List (List ℕ) → List Variable
variables_by around words = variable (codes "COLLECT_GCC") around.compiler ∷ variable (codes "COLLECT_GCC_OPTIONS") (quoted_line words) ∷ []

-- a variable of the compiler's own, with a text before its value; none where the compiler doesn't have it
abbrev pub own_variable : List (List ℕ) → List ℕ → List ℕ → List Variable
own_variable told name before = map (λ value. variable name (before ++ value)) (own_values name told)

-- the folders of the line's -B and of a path, before the compiler's own
abbrev pub path_before : List Item → Option (List ℕ) → List ℕ
path_before items path = flat_map given_text items ++ flat_map folder_text (folders path)

-- the targets of offloading that a line names, if it names some
abbrev pub target_variable : List ℕ → List Variable
target_variable targets = if nat_lt 0 (length targets) then variable (codes "OFFLOAD_TARGET_NAMES") targets ∷ [] else []

-- the targets of offloading: those of the line, or else of the compiler, which are a default then
abbrev pub offload_variables : List (List ℕ) → Option (List ℕ) → List Variable
offload_variables told None = own_variable told (codes "OFFLOAD_TARGET_NAMES") [] ++ own_variable told (codes "OFFLOAD_TARGET_DEFAULT") []
offload_variables told (Some targets) = target_variable targets

-- the variables for a link: what compiles again, and where programs and start files lie ("gcc.cc", maybe_putenv_COLLECT_LTO_WRAPPER)
abbrev pub link_variables : Surroundings → List (List ℕ) → List Item → List Variable
link_variables around told items =
    own_variable told (codes "COLLECT_LTO_WRAPPER") []
    ++ own_variable told (codes "COMPILER_PATH") (path_before items around.compiler_path)
    ++ own_variable told (codes "LIBRARY_PATH") (path_before items around.library_path)

-- those for a link, unless the line stops before it
abbrev pub linked_variables : Surroundings → List (List ℕ) → List Item → List Variable
linked_variables around told items = if stops items then [] else link_variables around told items

-- all variables that are set for the children of a line with these items, for which the compiler is called again with these words
abbrev pub variables : Surroundings → List (List ℕ) → List Item → List (List ℕ) → List Variable
variables around told items words = variables_by around words ++ assembler_variables items
    ++ offload_variables told (given_targets items) ++ linked_variables around told items

-- the variables that are set for a line's children
abbrev pub children : Surroundings → List Item → List Variable
children around items = variables around (told around.children items) items (compiler_words (told around.children items) items)

-- Which stages there are: no link with -c, -S and -E ("Overall Options"), -M and -MM ("Preprocessor Options") and -fsyntax-only ("Warning
-- Options"), and nothing but the link where no file has the suffix of a source and -x gives none its language.

-- whether an option keeps the line from linking
abbrev pub is_unlinked : Item → Bool
is_unlinked i = is_among (texts (codes "-c -S -E -M -MM -fsyntax-only")) i.name

-- whether a file's suffix is that of a source
abbrev pub ends_as_source : List ℕ → Bool
ends_as_source name = list_any (ends_with nat_eq name) (texts (codes ".c .i .h .s .S .sx"))

-- whether an item is a file with the suffix of a source
abbrev pub is_source_file : Item → Bool
is_source_file i = is_file_role i.role && ends_as_source i.name

-- whether an item is a source that isn't of C: each source is of C where -x is on no file, none is standard input, and the only suffix is
-- .c
abbrev pub is_other_file : Item → Bool
is_other_file i =
    is_file_role i.role && ((ends_as_source i.name && not (ends_with nat_eq i.name (codes ".c"))) || same i.name (codes "-"))

-- whether an option makes the line a preprocessor alone: then not each source is compiled
abbrev pub preprocesses : Item → Bool
preprocesses i = is_among (texts (codes "-E -M -MM")) i.name

-- whether all sources of the line are of C and compiled: a shorter file of texts has all that it needs then
abbrev pub is_c_alone : List Item → Bool
is_c_alone items = not (has (codes "-x") items) && not (list_any is_other_file items || list_any preprocesses items)

-- whether the line names a check: its link needs texts that the shorter files lack
abbrev pub is_checking : List Item → Bool
is_checking = has (codes "-fsanitize=")

-- which stages the line may have: it chooses the file of texts that the driver reads, the shortest that has what it needs
abbrev pub stages : List Item → Stages
stages items =
    if list_any is_unlinked items then (if is_c_alone items then SourcesOfC else Sources)
    else if is_checking items then All
    else if has (codes "-x") items || list_any is_source_file items then (if is_c_alone items then AllOfC else All)
    else Link

-- The files that a line writes ("Overall Options", -o).

-- the name of a source's output in the folder of the call, with this end in place of the last suffix
abbrev pub with_end : List ℕ → List ℕ → List ℕ
with_end end name = stem name ++ end

-- the files where no -o names one: none where nothing is compiled, or one for each source, or the program
abbrev pub default_outputs : List Item → List (List ℕ)
default_outputs items =
    if list_any preprocesses items || has (codes "-fsyntax-only") items then []
    else if has (codes "-S") items then map (with_end (codes ".s")) (sources compiled items)
    else if has (codes "-c") items then map (with_end (codes ".o")) (sources assembled items)
    else codes "a.out" ∷ []

-- the files by the last -o, which names the only one
abbrev pub outputs_by : List Item → Option (List ℕ) → List (List ℕ)
outputs_by items None = default_outputs items
outputs_by items (Some output) = output ∷ []

-- all files that a line writes, but for side files and for headers that it precompiles under their default names
abbrev pub outputs : List Item → List (List ℕ)
outputs items = outputs_by items (last_argument (codes "-o") items)

-- The answer.

-- the items of the driver's line: those of gcc's line that stay, and those that are added
abbrev pub line_items : Surroundings → List Item → List LineItem
line_items around items = filter_map line_item items ++ added_items around items

-- the answer for a line that is carried out
abbrev pub run_of : Surroundings → List Item → Answer
run_of around items =
    Run (record {
      items = line_items around items;
      inputs = inputs items;
      outputs = outputs items;
      children = children around items;
      stages = stages items;
    })

-- the faults of a line, or what it runs: of each class only the last item, since the others have no effect
abbrev pub refused_or_run : Surroundings → List Item → List Refusal → Answer
refused_or_run around items faults = if nat_lt 0 (length faults) then Refuse faults else run_of around (effective_items items)

-- the answer for a line that was read as items: a question goes to gcc whole, before faults are looked for
abbrev pub answer_of : List (List ℕ) → Surroundings → List Item → Answer
answer_of named around items = if is_asked items then Ask else refused_or_run around items (refusals named items)

-- the answer for the words of a line. `known` has the options beyond the table, `named` the switches that its spec files name
abbrev pub front_of : List ℕ → List (List ℕ) → Surroundings → List (List ℕ) → Answer
front_of known named around words = answer_of named around (items_of known None words)
