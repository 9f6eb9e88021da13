use Rattle.drv_args.specs.Lines.{line_judged, stops}
use Rattle.drv_args.specs.declared.fault.ArgsFault.TheVariants.{OutputWithMany}
use Rattle.drv_args.specs.declared.fault.ArgsFault.{ArgsFault}
use Rattle.drv_args.specs.declared.line.Input.{Input}
use Rattle.drv_args.specs.declared.line.Line.{Line}
use Rattle.drv_args.specs.declared.line.Settings.{Settings}
use Rattle.drv_compile.specs.Languages.{first_unserved}
use Rattle.drv_compile.specs.declared.running.DriverLine.{DriverLine}
use Rattle.drv_plan.specs.Languages.{Chosen, chosen_for}
use Rattle.drv_plan.specs.declared.fault.PlanFault.TheVariants.{NotInstalled}
use Rattle.drv_plan.specs.declared.fault.PlanFault.{PlanFault}
use Rattle.drv_run.specs.Drives.{specs_over, stopped_by_args, stopped_by_plan, stopped_by_specs, work_of}
use Rattle.drv_run.specs.declared.ending.Ending.TheVariants.{OutOfMemory}
use Rattle.drv_run.specs.declared.ending.Ending.{Ending}
use Rattle.drv_run.specs.declared.work.Work.{Work}
use Rattle.drv_specs.specs.Builtin.{suffixes}
use Rattle.drv_specs.specs.Sets.{Set}
use Rattle.drv_specs.specs.declared.fault.SpecsFault.{SpecsFault}
use Rattle.drv_system.specs.Facts.{Facts}
use Rattle.drv_system.specs.Known.{Is, Known}
use Rattle.std.specs.Prelude.{◌≡◌, ◌&&◌, Bool, Err, List, None, Ok, Option, Result, Some, count_by, false, is_some, nat_lt, true, ℕ}

-- What items of the driver's line ask for: the definitions of `drive`, over facts that an earlier part of the call has asked for (GCC
-- manual, "Overall Options"). The items give the line: no words of them are read.
-- For clauses of src/running.rt, src/sources.rt and src/preparing.rt.

-- the line that items of the driver denote, or why they are refused
abbrev pub line_given : DriverLine → Result Line ArgsFault
line_given given = line_judged given.from_file given.items

-- The specs of a line: what the files of -specs= make of the suffixes. So these files have each text that is run.
abbrev pub specs_of : Facts → Settings → Known (Result Set SpecsFault)
specs_of F settings = specs_over F suffixes settings

-- Whether one output is named for several sources, where no link follows. An input that has a compiler, installed or not, is a source; any
-- other is the linker's (GCC, "gcc.cc", driver::prepare_infiles).
abbrev pub has_compiler : Result (Option Chosen) PlanFault → Bool
has_compiler (Ok (Some chosen)) = true
has_compiler (Err (NotInstalled compiler)) = true
has_compiler _ = false

-- whether an input is a source: its language has a compiler, be that installed or not
abbrev pub is_source : Set → Input → Bool
is_source set input = has_compiler (chosen_for set input)

-- whether one -o names the output of several sources on a line without a link
abbrev pub has_several : Set → Line → Bool
has_several set line = is_some line.settings.output && (stops line && nat_lt 1 (count_by (is_source set) line.inputs))

-- The work of a line whose sources no spec file serves is a refusal by the name of their language, as of one that isn't installed.
abbrev pub work_by : Facts → Line → Set → ℕ → Option (List ℕ) → Known (Result Work PlanFault)
work_by F line set seed None = work_of F line set seed
work_by F line set seed (Some language) = Is (Err (NotInstalled language))

-- what a line with its specs asks for, unless it has a source in a language that no spec file serves
abbrev pub work_served : Facts → Line → Set → ℕ → Known (Result Work PlanFault)
work_served F line set seed = work_by F line set seed (first_unserved set line.inputs)

-- the work that items denote
pub record Works (F : Facts) (given : DriverLine) (seed : ℕ) (work : Work) : Type 0 where
  pub line : Line
  pub set : Set
  pub reads : line_given given ≡ Ok line
  pub loads : specs_of F line.settings ≡ Is (Ok set)
  pub single : has_several set line ≡ false
  pub works : work_served F line set seed ≡ Is (Ok work)

-- the refusal of the items: of the line, of a spec file, of several sources, or of the plan; lack of memory may take its place
pub data Stops (F : Facts) (given : DriverLine) (seed : ℕ) : Ending → Type 0 where
  lacks_memory : Stops F given seed OutOfMemory
  not_read : {fault : ArgsFault} → line_given given ≡ Err fault → Stops F given seed (stopped_by_args fault)
  not_loaded : {line : Line} {fault : SpecsFault} → line_given given ≡ Ok line → specs_of F line.settings ≡ Is (Err fault)
      → Stops F given seed (stopped_by_specs fault)
  several : {line : Line} {set : Set} → line_given given ≡ Ok line → specs_of F line.settings ≡ Is (Ok set) → has_several set line ≡ true
      → Stops F given seed (stopped_by_args OutputWithMany)
  not_planned : {line : Line} {set : Set} {fault : PlanFault} → line_given given ≡ Ok line → specs_of F line.settings ≡ Is (Ok set)
      → has_several set line ≡ false
      → work_served F line set seed ≡ Is (Err fault) → Stops F given seed (stopped_by_plan fault)
