use Rattle.drv_cc.specs.declared.answer.Variable.{Variable}
use Rattle.drv_cc.specs.declared.refusal.Refusal.TheVariants.{EmptyOutput, GivenFile, GivenMore, NoArgument, NoInput, NotTaken}
use Rattle.drv_cc.specs.declared.refusal.Refusal.TheVariants.{UnknownOption}
use Rattle.drv_cc.specs.declared.refusal.Refusal.{Refusal}
use Rattle.drv_compile.specs.Calling.{before_ending}
use Rattle.drv_compile.specs.Places.{companion}
use Rattle.drv_compile.specs.declared.overwriting.Clash.{Clash}
use Rattle.drv_compile.specs.declared.overwriting.ReadAs.TheVariants as read
use Rattle.drv_compile.specs.declared.overwriting.ReadAs.{ReadAs}
use Rattle.drv_words.specs.Bytes.{at_sign}
use Rattle.drv_words.specs.FileNames.{base}
use Rattle.std.specs.Cmp.Lexicographic.{pointwise}
use Rattle.std.specs.List.{flat_map}
use Rattle.std.specs.Prelude.{◌==◌, ◌||◌, Bool, List, [], ◌∷◌, ◌++◌, None, Option, Some, codes, false, if◌then◌else◌, nat_eq, ℕ}

-- What the user reads, in the words of gcc's driver where it has them.
-- For clauses of src/wording.rt and src/speaking.rt. Rows of tests/tables/cc and docs/gdrv-cc.1 have some of these texts too.

-- a line on standard error: the program's name, what follows, and a newline
abbrev pub error_line : List ℕ → List ℕ → List ℕ
error_line name text = name ++ codes ": error: " ++ text ++ codes "\n"

-- a word between two texts
abbrev pub quoted : List ℕ → List ℕ → List ℕ → List ℕ
quoted before word after = before ++ word ++ after

-- whether an option is this one
abbrev pub is : List ℕ → List ℕ → Bool
is = pointwise nat_eq

-- whether an option lacks a file's name, as gcc says it
abbrev pub takes_file : List ℕ → Bool
takes_file option =
    is option (codes "-o") || is option (codes "-include") || is option (codes "-imacros") || is option (codes "-MF")
    || is option (codes "--output") || is option (codes "--include") || is option (codes "--imacros")

-- whether an option lacks a macro's name
abbrev pub takes_macro : List ℕ → Bool
takes_macro option =
    is option (codes "-D") || is option (codes "-U") || is option (codes "--define-macro") || is option (codes "--undefine-macro")

-- whether an option lacks a path
abbrev pub takes_path : List ℕ → Bool
takes_path option =
    is option (codes "-I") || is option (codes "-isystem") || is option (codes "-iquote") || is option (codes "-idirafter")
    || is option (codes "-isysroot") || is option (codes "--include-directory") || is option (codes "--include-directory-after")

-- whether an option lacks a target of a makefile
abbrev pub takes_goal : List ℕ → Bool
takes_goal option = is option (codes "-MT") || is option (codes "-MQ")

-- what gcc says of an option without its argument, up to the option
abbrev pub lack_text : List ℕ → List ℕ
lack_text option =
    if takes_file option then codes "missing filename after '"
    else if takes_macro option then codes "macro name missing after '"
    else if takes_path option then codes "missing path after '"
    else if takes_goal option then codes "missing makefile target after '"
    else if is option (codes "-A") || is option (codes "--assert") then codes "assertion missing after '"
    else codes "missing argument to '"

-- how the message for an unknown word ends: with the option that was meant, if one is near
abbrev pub meant : Option (List ℕ) → List ℕ
meant None = codes "'"
meant (Some option) = quoted (codes "'; did you mean '") option (codes "'?")

-- what is said of a word that is no option, with the option that was meant
abbrev pub unknown_text : List ℕ → Option (List ℕ) → List ℕ
unknown_text word near = codes "unrecognized command-line option '" ++ word ++ meant near

-- what the specs of a line give and is no option (GCC, "gcc.cc", do_self_spec)
abbrev pub given_text : List ℕ → List ℕ
given_text word =
    if is word (codes "-") then codes "spec-generated switch is just '-'"
    else quoted (codes "switch '") word (codes "' does not start with '-'")

-- two lines on standard error, the second of which says that the call ends there, as gcc's fatal errors do
abbrev pub fatal_line : List ℕ → List ℕ → List ℕ
fatal_line name text = name ++ codes ": fatal error: " ++ text ++ codes "\ncompilation terminated.\n"

-- a refusal of the front
abbrev pub refusal_text : List ℕ → Refusal → Option (List ℕ) → List ℕ
refusal_text name (UnknownOption word) near = error_line name (unknown_text word near)
refusal_text name (NoArgument option) near = error_line name (lack_text option ++ option ++ codes "'")
refusal_text name (NotTaken option) near = error_line name (quoted (codes "option '") option (codes "' is not supported"))
refusal_text name (GivenFile word) near = fatal_line name (given_text word)
refusal_text name GivenMore near = error_line name
    (quoted (codes "the spec files of the line give more than options: 'self_spec' is not one command") [] [])
refusal_text name EmptyOutput near = name ++ codes ": fatal error: output filename may not be empty\ncompilation terminated.\n"
refusal_text name NoInput near = name ++ codes ": fatal error: no input files\ncompilation terminated.\n"

-- a file that is not there; of a response file the name is said
abbrev pub file_said : List ℕ → List ℕ
file_said [] = []
file_said (b ∷ path) = if b == at_sign then path else b ∷ path

-- the line for an input or a response file that isn't there
abbrev pub absent_text : List ℕ → List ℕ → List ℕ
absent_text name path = error_line name (file_said path ++ codes ": No such file or directory")

-- what a file is called by what it is read as
abbrev pub read_text : ReadAs → List ℕ
read_text read.Input = codes "input file '"
read_text read.Specs = codes "spec file '"
read_text read.Response = codes "response file '"

-- an output that is a file that the line reads (GCC, "gcc.cc", process_command)
abbrev pub overwritten_text : List ℕ → Clash → List ℕ
overwritten_text name clash =
    name ++ codes ": fatal error: " ++ read_text clash.read_as ++ clash.output
    ++ codes "' is the same as output file\ncompilation terminated.\n"

-- a line that the compiler says of itself, with its newline (GCC manual, "Overall Options", -v)
abbrev pub line_of : List ℕ → List ℕ
line_of line = line ++ codes "\n"

-- the line that shows the switches of a link, of the variable that has them
abbrev pub switches_line : Variable → List ℕ
switches_line v = if is v.name (codes "COLLECT_GCC_OPTIONS") then codes "COLLECT_GCC_OPTIONS=" ++ v.value ++ codes "\n" else []

-- what -v and -### say before the commands
abbrev pub said_text : List (List ℕ) → List Variable → List ℕ
said_text lines children = flat_map line_of lines ++ flat_map switches_line children

-- The command that writes the spec file of a machine. A file of another name may be for any gcc: the user says for which.

-- whether a spec file's name, without its ending, is that of the machine
abbrev pub is_for : List ℕ → Option (List ℕ) → Bool
is_for machine None = false
is_for machine (Some stem) = is stem machine

-- the gcc for which a spec file was written: the machine that is its name, or else GCC, for the user to say
abbrev pub gcc_of : List ℕ → List ℕ → List ℕ
gcc_of specs machine = if is_for machine (before_ending (codes ".specs") (base specs)) then machine else codes "GCC"

-- the command that writes a spec file, for a message
abbrev pub writing : List ℕ → List ℕ → List ℕ
writing specs machine = codes "'gdrv-write-specs -o " ++ specs ++ codes " " ++ gcc_of specs machine ++ codes "' writes it"

-- a file that this command writes, and that is not there or is not what it writes
abbrev pub unwritten_text : List ℕ → List ℕ → List ℕ → List ℕ → List ℕ → List ℕ
unwritten_text name before path specs machine = error_line name (quoted before path (codes "'; ") ++ writing specs machine)

-- after a run that did not find a program
abbrev pub gone_text : List ℕ → List ℕ → List ℕ → List ℕ
gone_text name specs machine = name ++ codes ": note: the spec file may be for a gcc that was changed or is gone: " ++ writing specs machine
    ++ codes " again\n"

-- Where the only word of a line is --help or --version, the compiler's answer gets a line in the name of this program: before it, or after
-- it (GCC manual, "Overall Options").

-- a text, if the words are this one alone
abbrev pub if_only : List ℕ → List (List ℕ) → List ℕ → List ℕ
if_only word [] text = []
if_only word (w ∷ []) text = if is w word then text else []
if_only word (w ∷ v ∷ words) text = []

-- the lines before the compiler's answer to --help alone
abbrev pub help_text : List ℕ → List ℕ → List (List ℕ) → List ℕ
help_text name compiler words =
    if_only (codes "--help") words
    (codes "Usage: " ++ name ++ codes " [options] file...\n"
    ++ codes "It compiles C and assembler as " ++ compiler ++ codes " does, whose options follow. See gdrv-cc(1).\n")

-- the line after the compiler's answer to --version alone, by which a user sees that this driver asked
abbrev pub version_text : List ℕ → List ℕ → List (List ℕ) → List ℕ
version_text name compiler words = if_only (codes "--version") words (name ++ codes ": a driver for " ++ compiler ++ codes "\n")

-- The rest of what is refused.

-- a response file that is there
abbrev pub unread_text : List ℕ → List ℕ → List ℕ
unread_text name path = error_line name (quoted (codes "response file '") path (codes "' cannot be read"))

-- a variable that gcc's driver takes (GCC manual, "Environment Variables")
abbrev pub variable_text : List ℕ → List ℕ
variable_text name = error_line name (codes "variable 'GCC_EXEC_PREFIX' is not supported")

-- no spec file, where the place of the program isn't known
abbrev pub no_place_text : List ℕ → List ℕ
no_place_text name =
    error_line name (codes "cannot find this program's own path (is /proc mounted?), and GDRV_CC_SPECS is not set")

-- a spec file that isn't where it should be
abbrev pub no_specs_text : List ℕ → List ℕ → List ℕ → List ℕ
no_specs_text name path machine = unwritten_text name (codes "there is no spec file '") path path machine

-- a file beside it that names no compiler
abbrev pub no_compiler_text : List ℕ → List ℕ → List ℕ → List ℕ
no_compiler_text name specs machine = unwritten_text name (codes "no compiler is named by '") (companion specs (codes ".gcc")) specs machine

-- a file that is missing or not whole
abbrev pub damaged_text : List ℕ → List ℕ → List ℕ → List ℕ → List ℕ
damaged_text name path specs machine = unwritten_text name (codes "missing or damaged file '") path specs machine

-- the command that asks the compiler for the words of a machine that no row beside the spec file has, for a message
abbrev pub adding : List ℕ → List ℕ → List ℕ
adding specs options = codes "'gdrv-write-specs --add " ++ specs ++ codes " " ++ options ++ codes "' asks the compiler for them"

-- the refusal of a line with options for a machine of which neither a row nor the compiler's answer has the words
abbrev pub unworded_text : List ℕ → List ℕ → List ℕ → List ℕ
unworded_text name specs options =
    error_line name (quoted (codes "the words for '") options (codes "' are not known; ") ++ adding specs options)
