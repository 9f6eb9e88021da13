use Rattle.drv_args.specs.Fronts as fronts
use Rattle.drv_args.specs.Fronts.{Start, item}
use Rattle.drv_args.specs.Jobs.{jobs_named}
use Rattle.drv_args.specs.Lines.{assembler_pieces, inputs_of, is_on, language_after, last_jobs, last_output, line_of, prefix_of}
use Rattle.drv_args.specs.Lines.{preprocessor_pieces, spec_of, switches_of}
use Rattle.drv_args.specs.declared.building.LineBuilder.{LineBuilder}
use Rattle.drv_args.specs.declared.fault.ArgsFault.{ArgsFault}
use Rattle.drv_args.specs.declared.items.Item.{Item}
use Rattle.drv_args.specs.declared.line.Input.TheVariants as input
use Rattle.drv_args.specs.declared.line.Input.{Input}
use Rattle.drv_args.specs.declared.line.Line.{Line}
use Rattle.drv_args.specs.declared.line.Settings.{Settings}
use Rattle.drv_args.specs.declared.option_table.Effect.TheVariants as effect
use Rattle.drv_args.specs.declared.option_table.Setting.TheVariants as setting
use Rattle.drv_args.specs.declared.option_table.Setting.{Setting}
use Rattle.drv_args.specs.declared.option_table.Tool.TheVariants as tool
use Rattle.drv_args.specs.declared.option_table.Tool.{Tool}
use Rattle.drv_args.specs.declared.reading.Start.TheVariants as code
use Rattle.drv_args.specs.declared.reading.Start.{Start as CodeStart}
use Rattle.std.specs.List.{filter_map, flat_map}
use Rattle.std.specs.Option.{unwrap_or}
use Rattle.std.specs.Prelude.{◌≡◌, ◌||◌, ⊤, Bool, Err, List, [], ◌∷◌, ◌++◌, None, Ok, Option, Result, map, true, ℕ}

-- A line that is built item by item. Only private clauses cite it: `line_read` defines what `read` returns.

-- the line before the first item
abbrev pub begun : Bool → LineBuilder
begun from_file = record { line = line_of from_file []; language = None }

-- the line with these items added
abbrev pub with_items : LineBuilder → List Item → Line
with_items b items = record {
  switches = b.line.switches ++ switches_of items;
  inputs = b.line.inputs ++ inputs_of b.language items;
  asm_opts = b.line.asm_opts ++ flat_map (λ i. assembler_pieces i.effect i.argument) items;
  cpp_opts = b.line.cpp_opts ++ flat_map (λ i. preprocessor_pieces i.effect i.argument) items;
  settings = record b.line.settings {
    dry = b.line.settings.dry || is_on setting.Dry items;
    verbose = b.line.settings.verbose || is_on setting.Verbose items;
    dump = b.line.settings.dump || is_on setting.Dump items;
    pass_codes = b.line.settings.pass_codes || is_on setting.PassCodes items;
    pipe = b.line.settings.pipe || is_on setting.Pipe items;
    output = last_output b.line.settings.output items;
    specs = b.line.settings.specs ++ filter_map (λ i. spec_of i.effect i.argument) items;
    prefixes = b.line.settings.prefixes ++ filter_map (λ i. prefix_of i.effect i.argument) items;
    jobs = last_jobs b.line.settings.jobs items;
  };
}

-- the line with one more item
abbrev pub noted : LineBuilder → Item → LineBuilder
noted b i = record { line = with_items b (i ∷ []); language = language_after i.effect i.argument b.language }

-- the line with the result of the rest of the words
abbrev pub line_with : LineBuilder → Result (List Item) ArgsFault → Result Line ArgsFault
line_with b (Ok items) = Ok (with_items b items)
line_with b (Err fault) = Err fault

-- what single steps add

-- one more switch
abbrev pub with_switch : LineBuilder → List ℕ → Option (List ℕ) → LineBuilder
with_switch b name arg = record b { line = record b.line { switches = b.line.switches ++ record { name = name; arg = arg } ∷ [] } }

-- more inputs
abbrev pub with_inputs : LineBuilder → List Input → LineBuilder
with_inputs b inputs = record b { line = record b.line { inputs = b.line.inputs ++ inputs } }

-- other settings
abbrev pub with_settings : LineBuilder → Settings → LineBuilder
with_settings b settings = record b { line = record b.line { settings = settings } }

-- one more setting that is on
abbrev pub with_setting : LineBuilder → Setting → LineBuilder
with_setting b setting.Dry = with_settings b (record b.line.settings { dry = true })
with_setting b setting.Verbose = with_settings b (record b.line.settings { verbose = true })
with_setting b setting.Dump = with_settings b (record b.line.settings { dump = true })
with_setting b setting.PassCodes = with_settings b (record b.line.settings { pass_codes = true })
with_setting b setting.Pipe = with_settings b (record b.line.settings { pipe = true })

-- the number of jobs, if the argument names one
abbrev pub with_jobs : LineBuilder → List ℕ → LineBuilder
with_jobs b argument = with_settings b (record b.line.settings { jobs = unwrap_or (jobs_named argument) b.line.settings.jobs })

-- the pieces of -Wa and -Wp are options, those of -Wl are inputs
abbrev pub with_pieces : LineBuilder → Tool → List (List ℕ) → LineBuilder
with_pieces b tool.Assembler pieces = record b { line = record b.line { asm_opts = b.line.asm_opts ++ pieces } }
with_pieces b tool.Preprocessor pieces = record b { line = record b.line { cpp_opts = b.line.cpp_opts ++ pieces } }
with_pieces b tool.Linker pieces = with_inputs b (map input.LinkWord pieces)

-- the code's value without its references
abbrev pub start_shown : CodeStart → Start
start_shown (code.Alone effect option argument) = fronts.Alone (item effect option.now argument.now)
start_shown (code.Switch option) = fronts.Alone (item effect.Switch option.now [])
start_shown (code.Wants effect option) = fronts.Wants effect option.now
start_shown code.Bad = fronts.Bad

-- the option and the argument of an item that is one word make up that word
abbrev pub is_whole : List ℕ → CodeStart → Type 0
is_whole word (code.Alone effect option argument) = option.now ++ argument.now ≡ word
is_whole word (code.Switch option) = option.now ≡ word
is_whole word (code.Wants effect option) = ⊤
is_whole word code.Bad = ⊤
