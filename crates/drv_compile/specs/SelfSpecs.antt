use Rattle.drv_args.specs.Lines.{line_judged}
use Rattle.drv_args.specs.declared.fault.ArgsFault.{ArgsFault}
use Rattle.drv_args.specs.declared.items.Item.{Item}
use Rattle.drv_args.specs.declared.line.Line.{Line}
use Rattle.drv_args.specs.declared.line.Settings.{Settings}
use Rattle.drv_cc.specs.SelfSpecs.{front_with, seen_items}
use Rattle.drv_cc.specs.declared.answer.Answer.TheVariants.{Refuse}
use Rattle.drv_cc.specs.declared.answer.Answer.{Answer}
use Rattle.drv_cc.specs.declared.answer.Surroundings.{Surroundings}
use Rattle.drv_cc.specs.declared.refusal.Refusal.TheVariants.{GivenMore}
use Rattle.drv_compile.specs.Beside.{known_names}
use Rattle.drv_compile.specs.Reading.{items_names, specs_given}
use Rattle.drv_compile.specs.Runs.{line_given, specs_of}
use Rattle.drv_compile.specs.declared.running.DriverLine.{DriverLine}
use Rattle.drv_compile.specs.declared.self_specs.Worked.TheVariants.{Gives, More, Nothing}
use Rattle.drv_compile.specs.declared.self_specs.Worked.{Worked}
use Rattle.drv_machine.specs.Outcome.{outcome}
use Rattle.drv_machine.specs.declared.outcome.Outcome.{Outcome}
use Rattle.drv_plan.specs.Denoted.{Planned, context_of, of_text}
use Rattle.drv_run.specs.Drives.{stopped_by_args, stopped_by_plan, stopped_by_specs}
use Rattle.drv_run.specs.declared.ending.Ending.{Ending}
use Rattle.drv_search.specs.Search.{prefixes_of}
use Rattle.drv_search.specs.declared.prefixes.Prefixes.{Prefixes}
use Rattle.drv_specs.specs.Sets.{Set, text_of}
use Rattle.drv_specs.specs.declared.fault.SpecsFault.{SpecsFault}
use Rattle.drv_syntax.specs.Parsed.{tree_of}
use Rattle.drv_system.specs.Facts.{Facts}
use Rattle.drv_system.specs.Known.{◌>>=◌, Is, Known, Unasked}
use Rattle.drv_words.specs.declared.plan.Command.{Command}
use Rattle.drv_words.specs.declared.plan.Job.{Job}
use Rattle.drv_words.specs.declared.plan.Temp.{Temp}
use Rattle.std.specs.Option.{unwrap_or}
use Rattle.std.specs.Prelude.{Err, List, [], ◌∷◌, None, Ok, Option, Result, Some, codes, if◌then◌else◌, length, nat_lt, ℕ}

-- What the spec files of a line give it: their text `self_spec` is run once, after the last of them is loaded, with the switches of the
-- line and no input (GCC, "gcc.cc", set_up_specs, do_self_spec).
--
-- The spec file of the call has a text `gdrv_self` of two commands: the words of the one are what `self_spec` gives, and those of the other
-- are the switches that it left (this project's profile).
-- For clauses of src/self_specs.rt.

-- what a job of such a text gives: no pipe, no further command, no temporary
abbrev pub of_groups : List (List Command) → Worked
of_groups ((given ∷ []) ∷ (left ∷ []) ∷ []) = Gives (record { left = left.words; words = given.words })
of_groups _ = More

-- what a job gives by its temporaries and groups: a temporary is more than words
abbrev pub of_parts : List Temp → List (List Command) → Worked
of_parts [] groups = of_groups groups
of_parts (temp ∷ temps) groups = More

-- what the job of such a text gives: two commands' words, or more than words
abbrev pub of_job : Job → Worked
of_job job = of_parts job.temps job.groups

-- a call's value over facts, or how it ends the call
abbrev pub Ended : Type 0 → Type 0
Ended X = Known (Result X Ending)

-- what that text gives, or how it ends the call
abbrev pub of_outcome : Planned Outcome → Ended Worked
of_outcome Unasked = Unasked
of_outcome (Is (Ok done)) = Is (Ok (of_job done.job))
of_outcome (Is (Err fault)) = Is (Err (stopped_by_plan fault))

-- the text worked with these specs along these prefixes, for this line
abbrev pub worked_along : Facts → Set → List ℕ → Line → Prefixes → Ended Worked
worked_along F set text line prefixes = of_outcome (of_text (outcome F (context_of line set prefixes 0) (tree_of text)))

-- the same, for a line of these items
abbrev pub worked_for : Facts → Settings → Set → List ℕ → Result Line ArgsFault → Ended Worked
worked_for F settings set text (Err fault) = Is (Err (stopped_by_args fault))
worked_for F settings set text (Ok line) = prefixes_of F settings.prefixes >>= worked_along F set text line

-- what a text of a set gives; nothing where no spec file has that text
abbrev pub worked_by : Facts → Settings → Set → Result Line ArgsFault → Option (List ℕ) → Ended Worked
worked_by F settings set line None = Is (Ok Nothing)
worked_by F settings set line (Some text) = worked_for F settings set text line

-- what the specs of a line give by their text of this name, or why they aren't loaded
abbrev pub worked_over : Facts → List ℕ → Settings → Result Line ArgsFault → Known (Result Set SpecsFault) → Ended Worked
worked_over F name settings line Unasked = Unasked
worked_over F name settings line (Is (Err fault)) = Is (Err (stopped_by_specs fault))
worked_over F name settings line (Is (Ok set)) = worked_by F settings set line (text_of set name)

-- the same with the specs that the driver loads for a line of its own
abbrev pub worked_of : Facts → List ℕ → Result Line ArgsFault → Result Line ArgsFault → Ended Worked
worked_of F name line (Err fault) = Is (Err (stopped_by_args fault))
worked_of F name line (Ok own) = worked_over F name own.settings line (specs_of F own.settings)

-- what the spec files of this line of the driver give a line whose switches these items are
abbrev pub self_worked : Facts → DriverLine → List Item → Ended Worked
self_worked F first items = worked_of F (codes "gdrv_self") (line_judged first.from_file items) (line_given first)

-- The answer, by what was given: none where the line stays as it is. The compiler's options are known, and the names in the line's spec
-- files.
abbrev pub answer_by : Facts → List ℕ → Surroundings → List ℕ → List (List ℕ) → DriverLine → Worked → Ended (Option Answer)
answer_by F specs around known args first Nothing = Is (Ok None)
answer_by F specs around known args first More = Is (Ok (Some (Refuse (GivenMore ∷ []))))
answer_by F specs around known args first (Gives given) =
    known_names F specs >>= λ options. items_names F first.items >>= λ named.
    Is (Ok (Some (front_with (unwrap_or options known) named around args given)))

-- the answer by what the specs gave, or how they ended the call
abbrev pub answer_after : Facts → List ℕ → Surroundings → List ℕ → List (List ℕ) → DriverLine → Ended Worked → Ended (Option Answer)
answer_after F specs around known args first Unasked = Unasked
answer_after F specs around known args first (Is (Err ending)) = Is (Err ending)
answer_after F specs around known args first (Is (Ok worked)) = answer_by F specs around known args first worked

-- a line that names no spec file stays as it is: the one file is that of the call
abbrev pub answer_given : Facts → List ℕ → Surroundings → List ℕ → List (List ℕ) → DriverLine → Ended (Option Answer)
answer_given F specs around known args first =
    if nat_lt 1 (length (specs_given first.items))
    then answer_after F specs around known args first (self_worked F first (seen_items known args))
    else Is (Ok None)
