use Rattle.drv_words.specs.Bytes.{comma}
use Rattle.drv_args.specs.Fronts.{items_of}
use Rattle.drv_args.specs.Jobs.{jobs_named}
use Rattle.drv_args.specs.declared.fault.ArgsFault.TheVariants.{NoInputs, OutputIsInput, OutputWithMany, StdinNeedsLanguage}
use Rattle.drv_args.specs.declared.fault.ArgsFault.TheVariants.{TooManyArguments}
use Rattle.drv_args.specs.declared.fault.ArgsFault.{ArgsFault}
use Rattle.drv_args.specs.declared.items.Item.{Item}
use Rattle.drv_args.specs.declared.line.Expanded.{Expanded}
use Rattle.drv_args.specs.declared.line.Input.TheVariants as input
use Rattle.drv_args.specs.declared.line.Input.{Input}
use Rattle.drv_args.specs.declared.line.Line.{Line}
use Rattle.drv_args.specs.declared.line.Switch.{Switch}
use Rattle.drv_args.specs.declared.option_table.Effect.TheVariants as effect
use Rattle.drv_args.specs.declared.option_table.Effect.{Effect}
use Rattle.drv_args.specs.declared.option_table.Setting.TheVariants as setting
use Rattle.drv_args.specs.declared.option_table.Setting.{Setting}
use Rattle.drv_args.specs.declared.option_table.Tool.TheVariants as tool
use Rattle.drv_words.specs.Bytes.{comma}
use Rattle.std.specs.Cmp.Lexicographic.{pointwise}
use Rattle.std.specs.List.{filter_map, flat_map, list_any, slice_split}
use Rattle.std.specs.Option.{unwrap_or}
use Rattle.std.specs.Prelude.{◌&&◌, ◌||◌, ◌==◌, Bool, Err, List, [], ◌∷◌, ◌++◌, None, Ok, Option, Result, Some, codes, count_by, drop}
use Rattle.std.specs.Prelude.{false, if◌then◌else◌, length, map, nat_eq, nat_lt, not, true, ℕ}

-- The line that items give. Each part of it filters the one list of items (GCC manual, "Overall Options"; this project's profile).

-- whether two names are the same
abbrev pub same : List ℕ → List ℕ → Bool
same = pointwise nat_eq

-- an option's name: the option without its first -
abbrev pub named : List ℕ → Option (List ℕ) → Option Switch
named option argument = Some (record { name = drop 1 option; arg = argument })

-- a setting whose option is also a switch
abbrev pub is_switch_too : Setting → Bool
is_switch_too setting.Pipe = true
is_switch_too setting.Verbose = true
is_switch_too _ = false

-- the switch of an item, if it makes one; some settings are switches too
abbrev pub switch_of : Effect → List ℕ → List ℕ → Option Switch
switch_of (effect.TurnsOn setting) option argument = if is_switch_too setting then named option None else None
switch_of effect.Switch option argument = named option None
switch_of effect.SwitchWithArgument option argument = named option (Some argument)
switch_of effect.JoinedSwitch option argument = named (option ++ argument) None
switch_of effect.Specs option argument = Some (record { name = codes "specs=" ++ argument; arg = None })
switch_of effect.Prefix option argument = named (option ++ argument) None
switch_of effect.Output option argument = named option (Some argument)
switch_of _ option argument = None

-- the switches of the items, in order
abbrev pub switches_of : List Item → List Switch
switches_of = filter_map (λ i. switch_of i.effect i.option i.argument)

-- the pieces of a text between its commas, including empty ones
abbrev pub pieces_of : List ℕ → List (List ℕ)
pieces_of = slice_split (λ b. b == comma)

-- what an item gives the assembler
abbrev pub assembler_pieces : Effect → List ℕ → List (List ℕ)
assembler_pieces (effect.Pieces tool.Assembler) argument = pieces_of argument
assembler_pieces (effect.Piece tool.Assembler) argument = argument ∷ []
assembler_pieces _ argument = []

-- and the preprocessor
abbrev pub preprocessor_pieces : Effect → List ℕ → List (List ℕ)
preprocessor_pieces (effect.Pieces tool.Preprocessor) argument = pieces_of argument
preprocessor_pieces (effect.Piece tool.Preprocessor) argument = argument ∷ []
preprocessor_pieces _ argument = []

-- the language after -x: `none` ends it
abbrev pub language_of : List ℕ → Option (List ℕ)
language_of word = if same word (codes "none") then None else Some word

-- the language after an item: that of -x, or the one before
abbrev pub language_after : Effect → List ℕ → Option (List ℕ) → Option (List ℕ)
language_after effect.Language argument language = language_of argument
language_after _ argument language = language

-- the inputs of an item; a file has the language of the last -x
abbrev pub inputs_at : Effect → List ℕ → List ℕ → Option (List ℕ) → List Input
inputs_at effect.File option argument language = input.File option language ∷ []
inputs_at effect.Library option argument language = input.Library (option ++ argument) ∷ []
inputs_at (effect.Pieces tool.Linker) option argument language = map input.LinkWord (pieces_of argument)
inputs_at (effect.Piece tool.Linker) option argument language = input.LinkWord argument ∷ []
inputs_at _ option argument language = []

-- the inputs, each with the language of the last -x before it
abbrev pub inputs_of : Option (List ℕ) → List Item → List Input
inputs_of language [] = []
inputs_of language (i ∷ items) =
    inputs_at i.effect i.option i.argument language ++ inputs_of (language_after i.effect i.argument language) items

-- whether an item turns on this setting
abbrev pub turns_on : Setting → Effect → Bool
turns_on setting.Dry (effect.TurnsOn setting.Dry) = true
turns_on setting.Verbose (effect.TurnsOn setting.Verbose) = true
turns_on setting.Dump (effect.TurnsOn setting.Dump) = true
turns_on setting.PassCodes (effect.TurnsOn setting.PassCodes) = true
turns_on setting.Pipe (effect.TurnsOn setting.Pipe) = true
turns_on _ _ = false

-- whether any does
abbrev pub is_on : Setting → List Item → Bool
is_on setting = list_any (λ i. turns_on setting i.effect)

-- the output: the last -o counts
abbrev pub output_following : Effect → List ℕ → Option (List ℕ) → Option (List ℕ)
output_following effect.Output argument output = Some argument
output_following _ argument output = output

-- the output of the last -o
abbrev pub last_output : Option (List ℕ) → List Item → Option (List ℕ)
last_output output [] = output
last_output output (i ∷ items) = last_output (output_following i.effect i.argument output) items

-- the spec file of an item
abbrev pub spec_of : Effect → List ℕ → Option (List ℕ)
spec_of effect.Specs argument = Some argument
spec_of _ argument = None

-- the prefix of an item
abbrev pub prefix_of : Effect → List ℕ → Option (List ℕ)
prefix_of effect.Prefix argument = Some argument
prefix_of _ argument = None

-- how many sources may be under way at once: the last number counts
abbrev pub jobs_after : Effect → List ℕ → ℕ → ℕ
jobs_after effect.Jobs argument jobs = unwrap_or (jobs_named argument) jobs
jobs_after _ argument jobs = jobs

-- the number of jobs of the last --jobs
abbrev pub last_jobs : ℕ → List Item → ℕ
last_jobs jobs [] = jobs
last_jobs jobs (i ∷ items) = last_jobs (jobs_after i.effect i.argument jobs) items

-- the line of items
abbrev pub line_of : Bool → List Item → Line
line_of from_file items = record {
  switches = switches_of items;
  inputs = inputs_of None items;
  asm_opts = flat_map (λ i. assembler_pieces i.effect i.argument) items;
  cpp_opts = flat_map (λ i. preprocessor_pieces i.effect i.argument) items;
  settings = record {
    dry = is_on setting.Dry items;
    verbose = is_on setting.Verbose items;
    dump = is_on setting.Dump items;
    pass_codes = is_on setting.PassCodes items;
    pipe = is_on setting.Pipe items;
    from_file = from_file;
    output = last_output None items;
    specs = filter_map (λ i. spec_of i.effect i.argument) items;
    prefixes = filter_map (λ i. prefix_of i.effect i.argument) items;
    jobs = last_jobs 1 items;
  };
}

-- The refusals of a whole line, in order. There are none if the specs are dumped.

-- whether a line has a switch of this name
abbrev pub has_switch : List ℕ → Line → Bool
has_switch name line = list_any (λ s. same s.name name) line.switches

-- whether an input is standard input without a language
abbrev pub is_bare_stdin : Input → Bool
is_bare_stdin (input.File name None) = same name (codes "-")
is_bare_stdin _ = false

-- whether an input is a file
abbrev pub is_file_input : Input → Bool
is_file_input (input.File name language) = true
is_file_input _ = false

-- whether it is the file of this name
abbrev pub is_file_named : List ℕ → Input → Bool
is_file_named output (input.File name language) = same name output
is_file_named output _ = false

-- standard input is an input, and neither a language nor -E says how to read it
abbrev pub needs_language : Line → Bool
needs_language line = list_any is_bare_stdin line.inputs && not (has_switch (codes "E") line)

-- the driver stops before the link
abbrev pub stops : Line → Bool
stops line = has_switch (codes "c") line || has_switch (codes "S") line || has_switch (codes "E") line

-- one output is named for several files
abbrev pub has_many : Line → Bool
has_many line = stops line && nat_lt 1 (count_by is_file_input line.inputs)

-- an output that is no regular file of its own
abbrev pub is_sink : List ℕ → Bool
is_sink output = same output (codes "-") || same output (codes "/dev/null")

-- whether an output is an input; a name for no real file (`is_sink`) never is
abbrev pub is_input : List ℕ → Line → Bool
is_input output line = not (is_sink output) && list_any (is_file_named output) line.inputs

-- an output that is an input is refused
abbrev pub input_fault : Option (List ℕ) → Line → Option ArgsFault
input_fault None line = None
input_fault (Some output) line = if is_input output line then Some (OutputIsInput output) else None

-- one output for several jobs is refused, and then an output that is an input
abbrev pub output_fault : Option (List ℕ) → Line → Option ArgsFault
output_fault None line = None
output_fault (Some output) line = if has_many line then Some OutputWithMany else input_fault (Some output) line

-- a line needs an input, and standard input a language
abbrev pub inputs_fault : Line → Option ArgsFault
inputs_fault line = if length line.inputs == 0 then Some NoInputs else if needs_language line then Some StdinNeedsLanguage else None

-- the first of two refusals
abbrev pub or_later : Option ArgsFault → Option ArgsFault → Option ArgsFault
or_later None later = later
or_later (Some fault) later = Some fault

-- what refuses a line; with -dumpspecs nothing does
abbrev pub line_fault : Line → Option ArgsFault
line_fault line = if line.settings.dump then None else or_later (inputs_fault line) (output_fault line.settings.output line)

-- the line, or its refusal
abbrev pub judged : Line → Option ArgsFault → Result Line ArgsFault
judged line None = Ok line
judged line (Some fault) = Err fault

-- The result of items. Their caller judges whether one output is named for several sources: it knows which files are sources.
abbrev pub items_fault : Line → Option ArgsFault
items_fault line = if line.settings.dump then None else or_later (inputs_fault line) (input_fault line.settings.output line)

-- the line of items, or its refusal
abbrev pub line_judged : Bool → List Item → Result Line ArgsFault
line_judged from_file items = judged (line_of from_file items) (items_fault (line_of from_file items))

-- a line, judged; a refusal stays one
abbrev pub judged_line : Result Line ArgsFault → Result Line ArgsFault
judged_line (Ok line) = judged line (line_fault line)
judged_line (Err fault) = Err fault

-- the line of items, unjudged
abbrev pub line_of_items : Bool → Result (List Item) ArgsFault → Result Line ArgsFault
line_of_items from_file (Ok items) = Ok (line_of from_file items)
line_of_items from_file (Err fault) = Err fault

-- the line of the words that arguments expand to, or the refusal
abbrev pub line_read : Expanded → Result Line ArgsFault
line_read expanded =
    if nat_lt 65536 (length expanded.words) then Err TooManyArguments
    else judged_line (line_of_items expanded.from_file (items_of expanded.words))
