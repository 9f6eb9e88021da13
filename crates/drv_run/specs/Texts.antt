use Rattle.drv_args.specs.declared.fault.ArgsFault.TheVariants as args_fault
use Rattle.drv_args.specs.declared.fault.ArgsFault.{ArgsFault}
use Rattle.drv_c99.specs.declared.fault.C99Fault.TheVariants as c99_fault
use Rattle.drv_c99.specs.declared.fault.C99Fault.{C99Fault}
use Rattle.drv_funcs.specs.Functions.{name_of}
use Rattle.drv_funcs.specs.declared.fault.FuncsFault.TheVariants as funcs_fault
use Rattle.drv_funcs.specs.declared.fault.FuncsFault.{FuncsFault}
use Rattle.drv_machine.specs.declared.fault.MachineFault.TheVariants as machine_fault
use Rattle.drv_machine.specs.declared.fault.MachineFault.{MachineFault}
use Rattle.drv_plan.specs.declared.fault.PlanFault.TheVariants as plan_fault
use Rattle.drv_plan.specs.declared.fault.PlanFault.{PlanFault}
use Rattle.drv_run.specs.declared.ending.Refusal.TheVariants.{Args, C99, Plan, Specs}
use Rattle.drv_run.specs.declared.ending.Refusal.{Refusal}
use Rattle.drv_search.specs.declared.fault.SearchFault.TheVariants as search_fault
use Rattle.drv_search.specs.declared.fault.SearchFault.{SearchFault}
use Rattle.drv_specs.specs.declared.fault.SpecsFault.TheVariants as specs_fault
use Rattle.drv_specs.specs.declared.fault.SpecsFault.{SpecsFault}
use Rattle.drv_syntax.specs.declared.fault.SyntaxFault.TheVariants as syntax_fault
use Rattle.drv_syntax.specs.declared.fault.SyntaxFault.{SyntaxFault}
use Rattle.std.specs.Prelude.{◌++◌, List, codes, decimal, ℕ}

-- The text of a refusal (the wording is this project's profile).

-- a word between the bytes before and after it
abbrev pub around : List ℕ → List ℕ → List ℕ → List ℕ
around before word after = before ++ word ++ after

-- the text of a fault of the words or the line
abbrev pub args_text : ArgsFault → List ℕ
args_text args_fault.Memory = codes "out of memory"
args_text args_fault.TooManyFiles = codes "too many @-files"
args_text (args_fault.ResponseTooLarge path) = around (codes "response file '") path (codes "' is too large")
args_text args_fault.TooManyArguments = codes "more than 65536 arguments"
args_text (args_fault.MissingArgument option) = around (codes "missing argument to '") option (codes "'")
args_text (args_fault.BadJobs word) = around (codes "bad job count '") word (codes "'")
args_text args_fault.NoInputs = codes "no input files"
args_text args_fault.StdinNeedsLanguage = codes "-E or -x required when input is from standard input"
args_text args_fault.OutputWithMany = codes "cannot specify -o with -c, -S or -E with multiple files"
args_text (args_fault.OutputIsInput input) = around (codes "input file '") input (codes "' is the same as output file")

-- of the front of c99
abbrev pub c99_text : C99Fault → List ℕ
c99_text c99_fault.Memory = codes "out of memory"
c99_text (c99_fault.UnknownOption word) = around (codes "c99: unknown option '") word (codes "'")
c99_text (c99_fault.MissingArgument option) = around (codes "c99: missing argument to '") option (codes "'")
c99_text c99_fault.NoOperand = codes "c99: no operand"
c99_text (c99_fault.BadLevel argument) = around (codes "c99: bad optimization level '") argument (codes "'")

-- of a search
abbrev pub search_text : SearchFault → List ℕ
search_text search_fault.Memory = codes "out of memory"
search_text (search_fault.ScriptMissing name) = around (codes "linker script '") name (codes "' not found")

-- of a function of spec texts
abbrev pub funcs_text : FuncsFault → List ℕ
funcs_text funcs_fault.Memory = codes "out of memory"
funcs_text (funcs_fault.VariableMissing name) = around (codes "environment variable '") name (codes "' not defined")
funcs_text (funcs_fault.WrongCount function) = codes "wrong number of arguments to " ++ name_of function
funcs_text (funcs_fault.BadVersion word) = around (codes "bad version '") word (codes "'")
funcs_text (funcs_fault.NotInLink function) = name_of function ++ codes " is for the link alone"
funcs_text (funcs_fault.BadOperator word) = around (codes "bad comparison '") word (codes "'")

-- of processing a spec text
abbrev pub machine_text : MachineFault → List ℕ
machine_text machine_fault.Memory = codes "out of memory"
machine_text (machine_fault.UserError text) = text
machine_text machine_fault.SpecTooDeep = codes "specs nested too deep"
machine_text machine_fault.TooManySteps = codes "too many spec steps"
machine_text machine_fault.NoInput = codes "no input file in this spec"
machine_text machine_fault.NotInLink = codes "%o is for the link alone"
machine_text machine_fault.StrayPipe = codes "stray pipe"
machine_text machine_fault.PipeTooLong = codes "more than 16 commands in one pipe"
machine_text (machine_fault.Search fault) = search_text fault
machine_text (machine_fault.Funcs fault) = funcs_text fault

-- where in a text, in bytes from its start
abbrev pub at_byte : List ℕ → ℕ → List ℕ
at_byte what n = what ++ codes " at byte " ++ decimal n

-- of a spec text's syntax
abbrev pub syntax_text : SyntaxFault → List ℕ
syntax_text syntax_fault.Memory = codes "out of memory"
syntax_text (syntax_fault.BadDirective n) = at_byte (codes "bad directive") n
syntax_text (syntax_fault.Unclosed n) = at_byte (codes "unclosed directive") n
syntax_text (syntax_fault.StarOutside n) = at_byte (codes "%* outside braces") n
syntax_text (syntax_fault.MixedStar n) = at_byte (codes "%* with a test that is not starred") n
syntax_text (syntax_fault.TooNested n) = at_byte (codes "nested too deep") n
syntax_text (syntax_fault.UnknownFunction n) = at_byte (codes "unknown spec function") n
syntax_text (syntax_fault.EmptyTest n) = at_byte (codes "empty test") n
syntax_text syntax_fault.TextTooLong = codes "spec text too long"

-- of a spec file
abbrev pub specs_text : SpecsFault → List ℕ
specs_text specs_fault.Memory = codes "out of memory"
specs_text (specs_fault.NoSuchFile path) = around (codes "spec file '") path (codes "' not found")
specs_text (specs_fault.Unreadable path) = around (codes "spec file '") path (codes "' cannot be read")
specs_text (specs_fault.RenameMissing name) = around (codes "no spec '") name (codes "' to rename")
specs_text (specs_fault.RenameTaken name) = around (codes "spec '") name (codes "' is already there")
specs_text (specs_fault.BadLine n) = codes "bad spec line " ++ decimal n
specs_text specs_fault.IncludeTooDeep = codes "includes nested too deep"
specs_text (specs_fault.AliasOfAlias key) = around (codes "language '") key (codes "' is an alias")
specs_text (specs_fault.TrailingBackslash name) = around (codes "spec '") name (codes "' ends with a backslash")
specs_text (specs_fault.BadName name) = around (codes "bad spec name '") name (codes "'")
specs_text specs_fault.TooManyIncludes = codes "too many spec files"
specs_text (specs_fault.Syntax name fault) = around (codes "spec '") name (codes "': ") ++ syntax_text fault

-- of a plan
abbrev pub plan_text : PlanFault → List ℕ
plan_text plan_fault.Memory = codes "out of memory"
plan_text (plan_fault.Machine fault) = machine_text fault
plan_text (plan_fault.UnknownLanguage name) = around (codes "language '") name (codes "' not recognized")
plan_text (plan_fault.NotInstalled name) = name ++ codes " compiler not installed on this system"

-- of any refusal
abbrev pub refusal_text : Refusal → List ℕ
refusal_text (Args fault) = args_text fault
refusal_text (C99 fault) = c99_text fault
refusal_text (Specs fault) = specs_text fault
refusal_text (Plan fault) = plan_text fault

-- the line on standard error: the program's name, the text and a newline
abbrev pub refusal_line : Refusal → List ℕ
refusal_line refusal = codes "gdrv: " ++ refusal_text refusal ++ codes "\n"
