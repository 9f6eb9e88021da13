use Rattle.drv_gcc.specs.Fixed.{first_texts, last_texts}
use Rattle.drv_gcc.specs.declared.toolchain.Alone.TheVariants.{Refused, Served}
use Rattle.drv_gcc.specs.declared.toolchain.Alone.{Alone}
use Rattle.drv_gcc.specs.declared.toolchain.Choice.{Choice}
use Rattle.drv_gcc.specs.declared.toolchain.Finding.TheVariants.{Along, Fixed, Own}
use Rattle.drv_gcc.specs.declared.toolchain.Finding.{Finding}
use Rattle.drv_gcc.specs.declared.toolchain.ForMachine.{ForMachine}
use Rattle.drv_gcc.specs.declared.toolchain.Included.{Included}
use Rattle.drv_gcc.specs.declared.toolchain.Linker.{Linker}
use Rattle.drv_gcc.specs.declared.toolchain.NamedText.{NamedText}
use Rattle.drv_gcc.specs.declared.toolchain.Program.{Program}
use Rattle.drv_gcc.specs.declared.toolchain.Programs.{Programs}
use Rattle.drv_gcc.specs.declared.toolchain.Toolchain.{Toolchain}
use Rattle.drv_words.specs.Bytes as byte
use Rattle.std.specs.Char.{is_ascii_alphanumeric}
use Rattle.std.specs.List.{flat_map, list_any, starts_with}
use Rattle.std.specs.Prelude.{◌||◌, Bool, List, [], ◌∷◌, ◌++◌, codes, drop, if◌then◌else◌, length, nat_eq, nat_lt, ℕ}

-- The spec file of a gcc: the texts of its dump, and those that say where it has what they name (GCC manual, "Spec Files").
-- For clauses of src/composing.rt, src/programs.rt, src/choices.rt and others. The front (crate drv_cc) gives the words --gdrv-.. that its
-- texts read.

-- whether a byte is one of a text's
abbrev pub is_of : List ℕ → ℕ → Bool
is_of bytes b = list_any (nat_eq b) bytes

-- A word as a spec text has it, and as a test of switches has it: a backslash precedes each byte that may mean something there.

-- a byte that means itself, or a backslash and the byte
abbrev pub marked : Bool → ℕ → List ℕ
marked plain b = if plain then b ∷ [] else byte.backslash ∷ b ∷ []

-- a byte of a word in a spec text
abbrev pub word_byte : ℕ → List ℕ
word_byte b = marked (is_ascii_alphanumeric b || is_of (codes "_./=+,:@~-") b) b

-- a word as a spec text gives it on, byte by byte
abbrev pub spec_word : List ℕ → List ℕ
spec_word word = flat_map word_byte word

-- a byte of a switch in a test
abbrev pub test_byte : ℕ → List ℕ
test_byte b = marked (is_ascii_alphanumeric b || is_of (codes "_=+,.@-") b) b

-- a switch as a test of switches names it
abbrev pub test_word : List ℕ → List ℕ
test_word word = flat_map test_byte word

-- a word with a blank after it
abbrev pub then_blank : List ℕ → List ℕ
then_blank word = spec_word word ++ byte.space ∷ []

-- a text of this name, as a directive of a spec file
unfoldable pub entry : List ℕ → List ℕ → List ℕ
entry name body = codes "*" ++ name ++ codes ":\n" ++ body ++ codes "\n\n"

-- a text without words is there and says nothing
abbrev pub or_nothing : List ℕ → List ℕ
or_nothing [] = codes "%{-gdrv-none:}"
or_nothing (b ∷ word) = spec_word (b ∷ word)

-- A text for the libraries of each folder, and one for the gcc's own (GCC manual, "Spec Files", %{S:X;T:Y;:D}). The front names the folder.

-- an alternative for the libraries of one folder
unfoldable pub for_machine : ForMachine → List ℕ
for_machine it = it.test ++ codes ":" ++ it.text ++ codes ";"

-- a text of alternatives: for the libraries of each folder its own, and else that of the gcc
unfoldable pub alternatives : List ℕ → List ForMachine → List ℕ
alternatives own others = codes "%{" ++ flat_map for_machine others ++ codes ":" ++ own ++ codes "}"

-- a text by the libraries of the line; without others it is the gcc's alone
unfoldable pub chosen : Choice → List ℕ
chosen it = if nat_lt 0 (length it.others) then alternatives it.own it.others else it.own

-- the named text of a file or folder, by the libraries of the line
unfoldable pub named_text : NamedText → List ℕ
named_text it = entry it.name (chosen it.choice)

-- a file by its path, or along the -B of the line; one that gcc doesn't find is looked for by its name
unfoldable pub found_body : List ℕ → List ℕ → List ℕ
found_body name path = codes "%{-gdrv-dirs:" ++ name ++ codes "%s;:" ++ spec_word path ++ codes "}"

-- a file that a text names; without a path it is looked for by its name alone
unfoldable pub file_body : List ℕ → List ℕ → List ℕ
file_body name path = if nat_lt 0 (length path) then found_body name path else name ++ codes "%s"

-- The folder of files, in a text that it names: a file in it is looked for along the -B of the line by its name alone.

-- a folder before a file's name; with -B there is none, so that the file is looked for along them
unfoldable pub folder_body : List ℕ → List ℕ
folder_body folder = codes "%{-gdrv-dirs:;:" ++ spec_word folder ++ codes "}"

-- a file in a folder of gcc's own
unfoldable pub placed_body : List ℕ → List ℕ → List ℕ
placed_body name folder = codes "%(in_" ++ folder ++ codes ")" ++ name ++ codes "%s"

-- the texts of a file that a text includes (%:include); a line that needs a missing one is refused
unfoldable pub included_text : Included → List ℕ
included_text it =
    if it.is_there then entry (codes "include_" ++ it.name) (codes "%{-gdrv-none:}") ++ it.texts
    else entry (codes "include_" ++ it.name) (codes "%espec file '" ++ it.name ++ codes "' not found")

-- gcc's own folders, which the front hands on as -B, are none of the line
unfoldable pub hidden_folder : List ℕ → List ℕ
hidden_folder folder = codes "%<B" ++ test_word folder ++ codes " "

-- the text that hides gcc's own folders among the -B of a line
unfoldable pub own_text : List (List ℕ) → List ℕ
own_text folders = entry (codes "own_folders") (codes "%{-gdrv-dirs|-gdrv-path=*:" ++ flat_map hidden_folder folders ++ codes "}")

-- the text of the words for headers: of gcc's own folders, then of the line's -B
unfoldable pub headers_text : Choice → List ℕ
headers_text words =
    entry (codes "include_words") (codes "%(own_folders) " ++ chosen words
    ++ codes " %{B*:-isystem %*/include} %{-gdrv-path=*:-isystem %*/include}")

-- folders of -B come before gcc's own folder, and those of LIBRARY_PATH before the last one
unfoldable pub library_words : List (List ℕ) → List (List ℕ) → List ℕ → List ℕ
library_words before words last =
    flat_map then_blank before ++ codes "%{B*:-L%*} " ++ flat_map then_blank words ++ codes "%{-gdrv-lib=*:-L%*} " ++ spec_word last

-- the text of the folders of libraries, by those of the line
unfoldable pub libraries_text : Choice → List ℕ
libraries_text folders = entry (codes "link_folders") (codes "%(own_folders) " ++ chosen folders)

-- words that name folders below a root: that of the line in the place of one that was tried (GCC manual, "Directory Options", --sysroot=)
unfoldable pub rooted_words : List ℕ → List ℕ → List ℕ
rooted_words plain below = codes "%{-sysroot=*:" ++ below ++ codes ";:" ++ plain ++ codes "}"

-- the texts of folders that gcc has in words of its own
unfoldable pub folder_texts : Toolchain → List ℕ
folder_texts gcc = own_text gcc.folders ++ headers_text gcc.include_words ++ libraries_text gcc.link_folders

-- A program where gcc finds it (GCC, "find_a_program"): along the -B of the line and COMPILER_PATH, and else in a folder of its own or
-- along PATH; or at the one place with which gcc was built (DEFAULT_ASSEMBLER). The words of -wrapper are followed by its plain name where
-- it is in none of those folders.
unfoldable pub looked_for : Finding → List ℕ
looked_for Own = codes "-gdrv-dirs|-gdrv-path=*"
looked_for Along = codes "-gdrv-dirs|-gdrv-path=*|-gdrv-wrapper=*"
looked_for Fixed = codes "-gdrv-none"

-- a program by its name along the line's folders, or else by gcc's path to it
unfoldable pub program_choice : List ℕ → Program → List ℕ
program_choice name it = looked_for it.finding ++ codes ":" ++ name ++ codes ";:" ++ spec_word it.path

-- the words of -wrapper precede the program, which is then looked for as a file
unfoldable pub program_body : List ℕ → Program → List ℕ
program_body name it = codes "%{" ++ program_choice name it ++ codes "}%(wrapped)"

-- the text of a program without a wrapper, such as the assembler in a pipe
unfoldable pub program_text : List ℕ → List ℕ → Program → List ℕ
program_text text name it = entry text (program_body name it)

-- the text of a program with the words of -wrapper before it
unfoldable pub wrapped_text : List ℕ → List ℕ → Program → List ℕ
wrapped_text text name it = entry text (codes "%(wrapper)" ++ program_body name it)

-- a linker of -fuse-ld=
unfoldable pub own_linker : Linker → List ℕ
own_linker it = codes "fuse-ld=" ++ it.name ++ codes ":%{-gdrv-dirs|-gdrv-path=*:ld." ++ it.name ++ codes ";:" ++ spec_word it.path
    ++ codes "};"

-- the text of the linker: one of -fuse-ld=, or gcc's own
unfoldable pub linker_body : List Linker → Program → List ℕ
linker_body linkers linker =
    codes "%(wrapper)%{" ++ flat_map own_linker linkers ++ codes "fuse-ld=*:ld.%*;" ++ program_choice (codes "ld") linker
    ++ codes "}%(wrapped)"

-- the linker as a named text
unfoldable pub linker_text : Programs → List ℕ
linker_text programs = entry (codes "linker") (linker_body programs.linkers programs.linker)

-- the texts of the compiler proper, the assembler and objcopy
unfoldable pub tool_texts : Program → Program → Program → List ℕ
tool_texts compiler assembler objcopy =
    wrapped_text (codes "cc1_cmd") (codes "cc1") compiler ++ program_text (codes "as_cmd") (codes "as") assembler
    ++ wrapped_text (codes "objcopy_cmd") (codes "objcopy") objcopy

-- the text of the folder of plugins, which the compiler proper gets
unfoldable pub folder_of_plugins : List ℕ → List ℕ
folder_of_plugins folder = entry (codes "plugin_folder") (codes "-iplugindir=" ++ spec_word folder)

-- the texts of the linker's plugin, of the program that it starts, and of the folder of plugins
unfoldable pub plugin_texts : List ℕ → List ℕ → List ℕ → List ℕ
plugin_texts plugin wrapper folder =
    entry (codes "linker_plugin_file") (or_nothing plugin) ++ entry (codes "lto_wrapper") (or_nothing wrapper)
    ++ folder_of_plugins folder

-- the texts of all programs that a line may start
unfoldable pub program_texts : Programs → List ℕ
program_texts programs =
    tool_texts programs.compiler programs.assembler programs.objcopy ++ linker_text programs
    ++ plugin_texts programs.plugin programs.lto_wrapper programs.plugin_folder

-- The root is named first of all in the link (%R, sysroot_spec): that of the line, or that of the gcc.

-- the root that the line names, or else the gcc's own
unfoldable pub line_root : List ℕ → List ℕ
line_root own = codes "%{-sysroot=*:--sysroot=%*;:" ++ spec_word own ++ codes "}"

-- the root's words; a gcc that takes no --sysroot= has its own alone
unfoldable pub root_words : Bool → List ℕ → List ℕ
root_words rooted own = if rooted then line_root own else spec_word own

-- gcc's text of the link with the root before it
unfoldable pub root_text : Bool → List ℕ → List ℕ
root_text rooted own = codes "%rename link link_of_gcc\n\n*link:\n" ++ root_words rooted own ++ codes " %(link_of_gcc)\n\n"

-- a line with --sysroot= is refused where the spec file has words for no other root
unfoldable pub root_guard : Bool → List ℕ
root_guard rooted =
    entry (codes "refused_root") (if rooted then codes "%{-gdrv-none:}" else codes "%{-sysroot=*:%e--sysroot= is not in this spec file}")

-- Where the files of a link are looked for along all prefixes, gcc looks for none in the folders of COMPILER_PATH (GCC manual, "Environment
-- Variables"). A line for which such a folder has one of them is refused.

-- the name of the file that a named text is for, if it is for one
abbrev pub file_of : NamedText → List (List ℕ)
file_of it = if starts_with nat_eq it.name (codes "file_") then drop (length (codes "file_")) it.name ∷ [] else []

-- a test whether a folder of COMPILER_PATH has this file
unfoldable pub there_test : List ℕ → List ℕ
there_test name = codes "%:if-exists(%*/" ++ name ++ codes ")|"

-- a test for each file of a link whether such a folder has it
unfoldable pub there_tests : NamedText → List ℕ
there_tests it = flat_map there_test (file_of it)

-- the text that refuses a line whose link would find a file in such a folder
unfoldable pub hiding_body : List NamedText → List ℕ
hiding_body texts =
    codes "%{!-gdrv-path=*:;-gdrv-dirs:%{-gdrv-path=*:%{" ++ flat_map there_tests texts
    ++ codes "-gdrv-none:%e-B or -specs= beside a folder of COMPILER_PATH with files of a link is not in this spec file}}"
    ++ codes "%<-gdrv-path=\\/* %{-gdrv-path=*:%e-B or -specs= beside a relative folder of COMPILER_PATH is not in this spec file}}"

-- the text `hiding_folders`, which refuses such lines
unfoldable pub hiding_text : List NamedText → List ℕ
hiding_text texts = entry (codes "hiding_folders") (hiding_body texts)

-- Options for the machine. The front puts what gcc makes of them in their place; a line without it gets what gcc adds for its own machine
-- (DRIVER_SELF_SPECS, OPTION_DEFAULT_SPECS), or is refused.

-- the words for gcc's own machine in a line without the front
unfoldable pub served_words : List (List ℕ) → List ℕ
served_words words = codes "%{!-gdrv-front:" ++ flat_map then_blank words ++ codes "}"

-- what a line without the front gets among the options for its machine
abbrev pub words_alone : Alone → List ℕ
words_alone (Served words) = served_words words
words_alone Refused = []

-- the options for the machine as a named text
unfoldable pub options_text : Alone → List ℕ
options_text alone = entry (codes "machine_options") (codes "%{m*} " ++ words_alone alone)

-- an option that would have other words by this file than by gcc
unfoldable pub refused_option : List ℕ → List ℕ
refused_option option = codes "%{" ++ drop 1 option ++ codes ":%e" ++ option ++ codes " is not in this spec file}"

-- what refuses each line without the front, if none is served
abbrev pub guard_alone : Alone → List ℕ
guard_alone (Served words) = []
guard_alone Refused = codes "%{!-gdrv-front:%ethis spec file needs gdrv-cc}"

-- the text that refuses lines for which this file would have other words than gcc
unfoldable pub refusals_text : List (List ℕ) → Alone → List ℕ
refusals_text options alone =
    entry (codes "refused_options") (codes "%{-gdrv-none:}" ++ guard_alone alone ++ flat_map refused_option options)

-- the texts for the machine: its words, the refusals, and the folder of the line's library
unfoldable pub machine_texts : Toolchain → List ℕ
machine_texts gcc = options_text gcc.alone ++ refusals_text gcc.refused gcc.alone ++ entry (codes "multilib_folder") gcc.library

-- the spec file that gdrv-write-specs writes for a gcc
unfoldable pub spec_file : Toolchain → List ℕ
spec_file gcc =
    first_texts ++ gcc.texts ++ root_text gcc.is_rooted gcc.sysroot ++ gcc.passed ++ flat_map named_text gcc.named ++ hiding_text gcc.named
    ++ flat_map included_text gcc.included ++ folder_texts gcc ++ program_texts gcc.programs ++ machine_texts gcc
    ++ root_guard gcc.is_rooted ++ last_texts gcc.side_files
