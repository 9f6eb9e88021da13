use Rattle.drv_cc.specs.Items.{is_among, same}
use Rattle.drv_cc.specs.Kept.{has, is_file_role, last_argument}
use Rattle.drv_cc.specs.Table.{texts}
use Rattle.drv_cc.specs.declared.item.Item.{Item}
use Rattle.drv_words.specs.Bytes.{period}
use Rattle.drv_words.specs.FileNames.{base, split_at_last, stem}
use Rattle.std.specs.List.{ends_with, filter, list_all}
use Rattle.std.specs.Prelude.{◌==◌, ◌&&◌, ◌||◌, Bool, List, [], ◌∷◌, ◌++◌, ◌-◌, None, Option, Some, codes, drop, false, if◌then◌else◌}
use Rattle.std.specs.Prelude.{length, map, nat_eq, nat_lt, not, take, true, ℕ}

-- The names of side files (GCC manual, "Overall Options", -dumpdir, -dumpbase, -dumpbase-ext; "Preprocessor Options", -MD; "Developer
-- Options", -save-temps; "gcc.cc", process_command, where these options are folded into the folder and the name).
-- For clauses of src/leading.rt, src/sides.rt, src/sources.rt and others. The texts of drv_gcc (specs/Fixed.antt) read its words --gdrv-..:
-- a word that changes here changes there too.

-- Parts of a name.

-- a name's folder, with its slash at the end: it leads the names of side files
abbrev pub folder : List ℕ → List ℕ
folder name = take (length name - length (base name)) name

-- a name's last suffix with its period; a period in first place begins no suffix. By it a source is known without -x
abbrev pub suffix : List ℕ → List ℕ
suffix name = drop (length (stem name)) (base name)

-- Files and sources.

-- the one name of a list that has no other; a line with one source names its side files in another way
abbrev pub only : List (List ℕ) → Option (List ℕ)
only (name ∷ []) = Some name
only _ = None

-- whether a list has two names or more
abbrev pub are_several : List (List ℕ) → Bool
are_several [] = false
are_several (name ∷ []) = false
are_several (name ∷ other ∷ names) = true

-- the names of the line's files in their order, - too
abbrev pub files : List Item → List (List ℕ)
files items = map (λ i. i.name) (filter (λ i. is_file_role i.role) items)

-- whether an item is a file that lies in a folder: - is the standard input, and no file of that name is looked for
abbrev pub is_looked_for : Item → Bool
is_looked_for i = is_file_role i.role && not (same i.name (codes "-"))

-- the names of the files that must be there before the line is carried out
abbrev pub inputs : List Item → List (List ℕ)
inputs items = map (λ i. i.name) (filter is_looked_for items)

-- suffixes and languages of sources that the compiler gets: those of C. The first text has the suffixes, the second the languages
abbrev pub compiled : List ℕ × List ℕ
compiled = (codes ".c .i .h", codes "c c-header cpp-output")

-- suffixes and languages of sources that the assembler ends with: C but for headers, and all assembler
abbrev pub assembled : List ℕ × List ℕ
assembled = (codes ".c .i .s .S .sx", codes "c cpp-output assembler assembler-with-cpp")

-- suffixes and languages of C and of assembler that is preprocessed: what -E, -M and -MM work on
abbrev pub preprocessed : List ℕ × List ℕ
preprocessed = (codes ".c .i .h .S .sx", codes "c c-header cpp-output assembler-with-cpp")

-- suffixes and languages of C and of all assembler: each such source has a command before the link
abbrev pub worked : List ℕ × List ℕ
worked = (codes ".c .i .h .s .S .sx", codes "c c-header cpp-output assembler assembler-with-cpp")

-- whether a file is a source of a kind: by its language, which -x gives, or else by its suffix
abbrev pub is_source : List ℕ × List ℕ → List ℕ → List ℕ → Bool
is_source kinds language name = if nat_lt 0 (length language) then is_among (texts kinds.1) language
    else is_among (texts kinds.0) (suffix name)

-- the language for the files after an item: -x gives one, and -x none takes it back (no text is no language)
abbrev pub language_by : List ℕ → Item → List ℕ
language_by language i = if same i.name (codes "-x") then (if same i.argument (codes "none") then [] else i.argument) else language

-- the name of an item, if it is a file and a source of that kind, in the language before it
abbrev pub source_by : List ℕ × List ℕ → List ℕ → Item → List (List ℕ)
source_by kinds language i = if is_file_role i.role && is_source kinds language i.name then i.name ∷ [] else []

-- the sources of a kind among items, where a language was given before them
abbrev pub sources_from : List ℕ × List ℕ → List ℕ → List Item → List (List ℕ)
sources_from kinds language [] = []
sources_from kinds language (i ∷ items) = source_by kinds language i ++ sources_from kinds (language_by language i) items

-- the sources of a kind on a line, in their order
abbrev pub sources : List ℕ × List ℕ → List Item → List (List ℕ)
sources kinds items = sources_from kinds [] items

-- Where side files go.

-- whether the line stops before the link: -c, -S or -E
abbrev pub stops : List Item → Bool
stops items = has (codes "-c") items || has (codes "-S") items || has (codes "-E") items

-- an output that is a file: - and /dev/null aren't, and lead no names
abbrev pub real : Option (List ℕ) → Option (List ℕ)
real None = None
real (Some output) = if same output (codes "-") || same output (codes "/dev/null") then None else Some output

-- the file that the last -o names, if it is one
abbrev pub output : List Item → Option (List ℕ)
output items = real (last_argument (codes "-o") items)

-- the folder of an output; without one the folder of the call, which is no text
abbrev pub folder_of : Option (List ℕ) → List ℕ
folder_of None = []
folder_of (Some output) = folder output

-- whether an option says where -save-temps keeps files
abbrev pub is_place : List ℕ → Bool
is_place name = is_among (texts (codes "-save-temps=cwd -save-temps=obj")) name

-- whether side files are kept in the folder of the call, after one more option: =cwd says so, =obj the other
abbrev pub here_after : Bool → List ℕ → Bool
here_after here name = if is_place name then same name (codes "-save-temps=cwd") else here

-- whether side files are kept in the folder of the call, after all items: the last option that says it decides
abbrev pub here_from : Bool → List Item → Bool
here_from here [] = here
here_from here (i ∷ items) = here_from (here_after here i.name) items

-- the folder of side files without -dumpdir: the output's, or that of the call where -save-temps=cwd says so
abbrev pub own_folder : List Item → List ℕ
own_folder items = if here_from false items then [] else folder_of (output items)

-- a folder that -dumpdir gave, after a -save-temps= with a place: the line's own folder replaces it
abbrev pub placed : List ℕ → Option (List ℕ) → Option (List ℕ)
placed own None = None
placed own (Some given) = Some own

-- the folder that -dumpdir gives, after one more item
abbrev pub given_after : List ℕ → Option (List ℕ) → Item → Option (List ℕ)
given_after own given i =
    if same i.name (codes "-dumpdir") then Some i.argument
    else if is_place i.name then placed own given else given

-- the folder that -dumpdir gives, after all items
abbrev pub given_from : List ℕ → Option (List ℕ) → List Item → Option (List ℕ)
given_from own given [] = given
given_from own given (i ∷ items) = given_from own (given_after own given i) items

-- whether an output is named, but is no file: then -save-temps= moves no folder of -dumpdir
abbrev pub is_no_file : Option (List ℕ) → Bool
is_no_file None = false
is_no_file (Some output) = same output (codes "-") || same output (codes "/dev/null")

-- the folder that options give the side files, if they give one
abbrev pub given_folder : List Item → Option (List ℕ)
given_folder items =
    if is_no_file (last_argument (codes "-o") items) then last_argument (codes "-dumpdir") items
    else given_from (own_folder items) None items

-- the given folder, or else the line's own
abbrev pub given_or : List ℕ → Option (List ℕ) → List ℕ
given_or own None = own
given_or own (Some given) = given

-- the argument of the last -dumpbase
abbrev pub given_base : List Item → Option (List ℕ)
given_base items = last_argument (codes "-dumpbase") items

-- the folder of side files by the name of -dumpbase: a name with its own folder replaces every other folder
abbrev pub folder_by : Option (List ℕ) → List ℕ → List ℕ
folder_by None around = around
folder_by (Some name) around = if nat_lt 0 (length (folder name)) then [] else around

-- the folder that leads the names of all side files of the line
abbrev pub side_folder : List Item → List ℕ
side_folder items = folder_by (given_base items) (given_or (own_folder items) (given_folder items))

-- the argument of the last -dumpbase-ext, which is taken from the end of a name
abbrev pub given_end : List Item → Option (List ℕ)
given_end items = last_argument (codes "-dumpbase-ext") items

-- whether a name ends so and is longer: an end that is the whole name isn't taken away
abbrev pub is_end : List ℕ → List ℕ → Bool
is_end name end = nat_lt (length end) (length name) && ends_with nat_eq name end

-- a name without the end of -dumpbase-ext, where it has that end and something before it
abbrev pub without_end : List ℕ → Option (List ℕ) → List ℕ
without_end name None = name
without_end name (Some end) = if is_end name end then take (length name - length end) name else name

-- the program's name where no end is given: the output's without .exe; of a.out it is a
abbrev pub usual_program : List ℕ → List ℕ
usual_program output = if same (base output) (codes "a.out") || same (suffix output) (codes ".exe") then stem output else base output

-- the program's name of an output, by the end that is given or not
abbrev pub program_by : Option (List ℕ) → List ℕ → List ℕ
program_by None output = usual_program output
program_by (Some end) output = without_end (base output) (Some end)

-- the program's name; without an output it is a, as of a.out
abbrev pub program_of : Option (List ℕ) → Option (List ℕ) → List ℕ
program_of end None = codes "a"
program_of end (Some output) = program_by end output

-- the program's name of a line, which leads the side files of a link
abbrev pub program : List Item → List ℕ
program items = program_of (given_end items) (output items)

-- whether the only file has the program's name before its suffix: then that name isn't said twice
abbrev pub is_named : List ℕ → Option (List ℕ) → Bool
is_named program None = false
is_named program (Some file) = same program (stem file) && nat_lt 0 (length (suffix file))

-- whether a folder of -dumpdir is given
abbrev pub is_given : Option (List ℕ) → Bool
is_given None = false
is_given (Some given) = true

-- whether the name of -dumpbase precedes the side files' own names: with several files, or a link without -dumpdir
abbrev pub leads : List Item → Bool
leads items = are_several (files items) || not (stops items || is_given (given_folder items))

-- the name of -dumpbase, where it isn't empty and leads the names, without the end that is given
abbrev pub leading_base : List Item → List ℕ → Option (List ℕ)
leading_base items name = if nat_lt 0 (length name) && leads items then Some (without_end name (given_end items)) else None

-- the program's name as what leads the names: only of a link without -dumpdir whose only file is named otherwise
abbrev pub leading_program : List Item → Option (List ℕ)
leading_program items =
    if (stops items || is_given (given_folder items)) || is_named (program items) (only (files items)) then None else Some (program items)

-- what leads the names, by the name of -dumpbase or, without one, by the program
abbrev pub leading_by : List Item → Option (List ℕ) → Option (List ℕ)
leading_by items (Some name) = leading_base items name
leading_by items None = leading_program items

-- what leads the names of the sources' side files, if anything does
abbrev pub side_lead : List Item → Option (List ℕ)
side_lead items = leading_by items (given_base items)

-- what leads the link's side files where -dumpbase is given: its name, or the program's where that is empty
abbrev pub link_base : List Item → List ℕ → List ℕ
link_base items name = if nat_lt 0 (length name) then without_end name (given_end items) else program items

-- what leads them without -dumpbase: the program's name, unless -dumpdir gives a folder
abbrev pub link_program : List Item → Option (List ℕ)
link_program items = if is_given (given_folder items) then None else Some (program items)

-- what leads the link's side files, by the name of -dumpbase or without one
abbrev pub link_leading_by : List Item → Option (List ℕ) → Option (List ℕ)
link_leading_by items (Some name) = Some (link_base items name)
link_leading_by items None = link_program items

-- what leads the names of the link's side files, if anything does
abbrev pub link_leading : List Item → Option (List ℕ)
link_leading items = link_leading_by items (given_base items)

-- a leading name with the mark after it, - for sources and . for the link; nothing where nothing leads
abbrev pub path_with_mark : List ℕ → Option (List ℕ) → List ℕ
path_with_mark mark None = []
path_with_mark mark (Some name) = name ++ mark

-- how the names of the sources' side files begin: the word --gdrv-dir= gives it to the texts
abbrev pub beginning : List Item → List ℕ
beginning items = side_folder items ++ path_with_mark (codes "-") (side_lead items)

-- how the names of the link's side files begin: the link's children get it by -dumpdir
abbrev pub link_beginning : List Item → List ℕ
link_beginning items = side_folder items ++ path_with_mark (codes ".") (link_leading items)

-- the name of -dumpbase as that of the only source, with its end: where it isn't empty and leads no names
abbrev pub own_base : List Item → List ℕ → Option (List ℕ)
own_base items name = if nat_lt 0 (length name) && not (leads items) then Some name else None

-- the name of -dumpbase as that of the only source, by whether it is given
abbrev pub base_by : List Item → Option (List ℕ) → Option (List ℕ)
base_by items None = None
base_by items (Some name) = own_base items name

-- the name that the line gives to the side files of its only source, if it gives one
abbrev pub source_base : List Item → Option (List ℕ)
source_base items = base_by items (given_base items)

-- the name of a source's side files without its end: the output's where the line stops (true) and has one, or else its own
abbrev pub stem_by : Bool → Option (List ℕ) → List ℕ → List ℕ
stem_by true (Some output) name = stem output
stem_by true None name = stem name
stem_by false output name = stem name

-- whether -dumpbase gives an empty name: then the output's name isn't used either
abbrev pub is_empty_name : Option (List ℕ) → Bool
is_empty_name None = false
is_empty_name (Some name) = length name == 0

-- the name of a source's side files that -dumpbase doesn't name
abbrev pub unnamed_stem : List Item → List ℕ → List ℕ
unnamed_stem items name = if is_empty_name (given_base items) then stem name else stem_by (stops items) (output items) name

-- the name of a source's side files, by the name that is given to the only source or without one
abbrev pub stem_from : List Item → List ℕ → Option (List ℕ) → List ℕ
stem_from items name None = unnamed_stem items name
stem_from items name (Some given) = without_end given (given_end items)

-- the name of a source's side files, before their suffix and after how they begin
abbrev pub stem_of : List Item → List ℕ → List ℕ
stem_of items name = stem_from items name (source_base items)

-- the file that -MD writes for an output: its name with .d in place of its last suffix
abbrev pub dependencies : List ℕ → List ℕ
dependencies output = by (split_at_last period (base output))
  where
    by : Option (List ℕ × List ℕ) → List ℕ
    by None = output ++ codes ".d"
    by (Some parts) = folder output ++ parts.0 ++ codes ".d"

-- the kinds of sources that get a name by --gdrv-base=: with -E, -M and -MM assembler too
abbrev pub named_kinds : List Item → List ℕ × List ℕ
named_kinds items = if has (codes "-E") items || has (codes "-M") items || has (codes "-MM") items then preprocessed else compiled

-- Words.

-- a word with its value, where the value isn't empty: an empty one needs no word
abbrev pub with_value : List ℕ → List ℕ → List (List ℕ)
with_value word value = if nat_lt 0 (length value) then (word ++ value) ∷ [] else []

-- whether a suffix is one that only -x makes a source's: gcc's texts must then cut it off by that word
abbrev pub is_other : List ℕ → Bool
is_other end = nat_lt 0 (length end) && not (is_among (texts preprocessed.0) end)

-- the suffixes of sources that only -x makes sources
abbrev pub other_suffixes : List (List ℕ) → List (List ℕ)
other_suffixes names = filter is_other (map suffix names)

-- of several sources: the one suffix that all such sources have, or that they have several ("Overall Options", -x)
abbrev pub suffix_words : List (List ℕ) → List (List ℕ)
suffix_words [] = []
suffix_words (end ∷ others) = if list_all (same end) others then (codes "--gdrv-suffix=" ++ end) ∷ [] else codes "--gdrv-suffixes" ∷ []

-- the word for the end of a given name: the end of -dumpbase-ext, where the name has it
abbrev pub end_words : List ℕ → Option (List ℕ) → List (List ℕ)
end_words given None = []
end_words given (Some end) = if is_end given end then with_value (codes "--gdrv-ext=") end else []

-- the words for the only source's side files: their name with its end, and that end
abbrev pub base_words_of : List Item → List ℕ → Option (List ℕ) → List (List ℕ)
base_words_of items name None = (codes "--gdrv-base=" ++ (unnamed_stem items name ++ suffix name))
    ∷ with_value (codes "--gdrv-ext=") (suffix name)
base_words_of items name (Some given) = (codes "--gdrv-base=" ++ given) ∷ end_words given (given_end items)

-- the words for the sources' names: of the only source, or of several
abbrev pub base_words : List Item → List (List ℕ) → Option (List ℕ) → List (List ℕ)
base_words items names None = suffix_words (other_suffixes names)
base_words items names (Some name) = base_words_of items name (source_base items)

-- the word for the file of dependencies where -o names none: by the name of -dumpbase, if it is the only source's
abbrev pub given_dependencies : List Item → Option (List ℕ) → List (List ℕ)
given_dependencies items None = []
given_dependencies items (Some given) = (codes "--gdrv-dep=" ++ (side_folder items ++ without_end given (given_end items) ++ codes ".d"))
    ∷ []

-- the word for the file of dependencies: by the output, or else by the given name
abbrev pub dependency_words : List Item → Option (List ℕ) → List (List ℕ)
dependency_words items None = given_dependencies items (source_base items)
dependency_words items (Some output) = (codes "--gdrv-dep=" ++ dependencies output) ∷ []

-- the word for the name of further files of the only source (such as .dwo), before their suffix
abbrev pub aux_words : List Item → Option (List ℕ) → List (List ℕ)
aux_words items None = []
aux_words items (Some name) = (codes "--gdrv-aux=" ++ (beginning items ++ stem_of items name)) ∷ []

-- whether the line keeps what its commands leave between them (-save-temps)
abbrev pub saves : List Item → Bool
saves items =
    has (codes "-save-temps") items || has (codes "-save-temps=cwd") items || has (codes "-save-temps=obj") items

-- the word for the file of dependencies, where -MD or -MMD asks for one
abbrev pub dependencies_asked : List Item → List (List ℕ)
dependencies_asked items = if has (codes "-MD") items || has (codes "-MMD") items
    then dependency_words items (last_argument (codes "-o") items) else []

-- the word for further files, where -save-temps or -gsplit-dwarf makes them
abbrev pub aux_asked : List Item → List (List ℕ)
aux_asked items = if saves items || has (codes "-gsplit-dwarf") items then aux_words items (only (sources worked items)) else []

-- whether a list has a name at all
abbrev pub is_some : List (List ℕ) → Bool
is_some [] = false
is_some (name ∷ names) = true

-- all words for the side files' names of a line that has a source
abbrev pub named_words : List Item → List (List ℕ)
named_words items =
    with_value (codes "--gdrv-dir=") (beginning items)
    ++ base_words items (sources (named_kinds items) items) (only (sources (named_kinds items) items)) ++ dependencies_asked items
    ++ aux_asked items

-- the words by which the texts name side files; a line without a source has none
abbrev pub side_words : List Item → List (List ℕ)
side_words items = if is_some (sources worked items) then named_words items else []
