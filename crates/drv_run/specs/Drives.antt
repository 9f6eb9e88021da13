use Rattle.drv_args.specs.Expansion.{Expands, Refuses as RefusesExpansion}
use Rattle.drv_args.specs.Lines.{line_read}
use Rattle.drv_args.specs.declared.fault.ArgsFault.TheVariants as args_fault
use Rattle.drv_args.specs.declared.fault.ArgsFault.{ArgsFault}
use Rattle.drv_args.specs.declared.line.Expanded.{Expanded}
use Rattle.drv_args.specs.declared.line.Line.{Line}
use Rattle.drv_args.specs.declared.line.Settings.{Settings}
use Rattle.drv_c99.specs.Front.{front_of}
use Rattle.drv_c99.specs.declared.fault.C99Fault.TheVariants as c99_fault
use Rattle.drv_c99.specs.declared.fault.C99Fault.{C99Fault}
use Rattle.drv_funcs.specs.declared.fault.FuncsFault.TheVariants as funcs_fault
use Rattle.drv_machine.specs.declared.fault.MachineFault.TheVariants as machine_fault
use Rattle.drv_plan.specs.Denoted.{denoted}
use Rattle.drv_plan.specs.declared.fault.PlanFault.TheVariants as plan_fault
use Rattle.drv_plan.specs.declared.fault.PlanFault.{PlanFault}
use Rattle.drv_run.specs.declared.ending.Ending.TheVariants.{Done, OutOfMemory, Refused}
use Rattle.drv_run.specs.declared.ending.Ending.{Ending}
use Rattle.drv_run.specs.declared.ending.Refusal.TheVariants.{Args, C99 as NoFront, Plan as NoPlan, Specs as NoSpecs}
use Rattle.drv_run.specs.declared.ending.Refusal.{Refusal}
use Rattle.drv_run.specs.declared.work.Manner.{Manner}
use Rattle.drv_run.specs.declared.work.Telling.TheVariants.{Commands, Notices}
use Rattle.drv_run.specs.declared.work.Telling.{Telling}
use Rattle.drv_run.specs.declared.work.Work.TheVariants.{CarryOut, Dump, Show}
use Rattle.drv_run.specs.declared.work.Work.{Work}
use Rattle.drv_search.specs.Search.{prefixes_of}
use Rattle.drv_search.specs.declared.fault.SearchFault.TheVariants as search_fault
use Rattle.drv_search.specs.declared.prefixes.Prefixes.{Prefixes}
use Rattle.drv_specs.specs.Builtin.{builtin_specs}
use Rattle.drv_specs.specs.Dumping.{dumped}
use Rattle.drv_specs.specs.Loading.{file_loaded, then_by}
use Rattle.drv_specs.specs.Sets.{Set}
use Rattle.drv_specs.specs.declared.fault.SpecsFault.TheVariants as specs_fault
use Rattle.drv_specs.specs.declared.fault.SpecsFault.{SpecsFault}
use Rattle.drv_syntax.specs.declared.fault.SyntaxFault.TheVariants as syntax_fault
use Rattle.drv_system.specs.Facts.{Facts}
use Rattle.drv_system.specs.Known.{◌>>=◌, Is, Known, Unasked}
use Rattle.drv_words.specs.declared.plan.Plan.{Plan}
use Rattle.std.specs.Cmp.Lexicographic.{pointwise}
use Rattle.std.specs.Prelude.{◌≡◌, Bool, Err, List, [], ◌∷◌, Ok, Result, codes, drop, false, if◌then◌else◌, nat_eq, true, ℕ, ⊤}

-- What arguments ask for, over facts (GCC manual, "Overall Options" and "Spec Files"; POSIX, c99).

-- a first argument --c99, as it was handed in, selects the front of c99, and is no word of the line
abbrev pub is_c99 : List (List ℕ) → Bool
is_c99 [] = false
is_c99 (word ∷ words) = pointwise nat_eq word (codes "--c99")

-- the arguments without an initial --c99
abbrev pub after_c99 : List (List ℕ) → List (List ℕ)
after_c99 args = if is_c99 args then drop 1 args else args

-- the words of c99 as words of the driver
abbrev pub with_words : Expanded → Result (List (List ℕ)) C99Fault → Result Expanded C99Fault
with_words expanded (Ok words) = Ok (record expanded { words = words })
with_words expanded (Err fault) = Err fault

-- the driver's words for those of c99; others are the driver's already
abbrev pub fronted : Bool → Expanded → Result Expanded C99Fault
fronted true expanded = with_words expanded (front_of expanded.words)
fronted false expanded = Ok expanded

-- The words of the line: response files expanded, and then those of c99 turned into the driver's.
pub record Words (F : Facts) (args : List (List ℕ)) (words : Expanded) : Type 0 where
  pub expanded : Expanded
  pub expands : Expands F 2000 (after_c99 args) (Ok expanded)
  pub fronts : fronted (is_c99 args) expanded ≡ Ok words

-- a set after files of specs, in their order
abbrev pub files_loaded : Facts → Prefixes → Set → List (List ℕ) → Known (Result Set SpecsFault)
files_loaded F prefixes set [] = Is (Ok set)
files_loaded F prefixes set (name ∷ names) = then_by (file_loaded F prefixes set name) (λ set'. files_loaded F prefixes set' names)

-- a set after the files of -specs=, each found along the prefixes of -B
abbrev pub specs_over : Facts → Set → Settings → Known (Result Set SpecsFault)
specs_over F set settings = prefixes_of F settings.prefixes >>= λ prefixes. files_loaded F prefixes set settings.specs

-- the specs of a line: the built-in ones, and what these files make of them
abbrev pub specs_of : Facts → Settings → Known (Result Set SpecsFault)
specs_of F settings = specs_over F builtin_specs settings

-- a line with other settings of the call itself: whether its plan is shown, whether it is said, whose codes count, and how many sources are
-- under way at once. The plan sees none of them: the law `same_plan`.
abbrev pub called_as : Bool → Bool → Bool → ℕ → Line → Line
called_as dry verbose pass_codes jobs line = record line
    { settings = record line.settings { dry = dry; verbose = verbose; pass_codes = pass_codes; jobs = jobs } }

-- what is said of a plan before it is carried out: with -v its commands too
abbrev pub telling_of : Settings → Telling
telling_of settings = if settings.verbose then Commands else Notices

-- how a plan is carried out: what is said first, the status of a failure, and how many sources are under way at once
abbrev pub manner_of : Settings → Manner
manner_of settings = record { telling = telling_of settings; pass_codes = settings.pass_codes; window = settings.jobs }

-- with -### a plan is shown, and otherwise it is carried out
abbrev pub work_with : Settings → Plan → Work
work_with settings plan = if settings.dry then Show plan else CarryOut plan (manner_of settings)

-- the work for a plan
abbrev pub worked : Settings → Known (Result Plan PlanFault) → Known (Result Work PlanFault)
worked settings Unasked = Unasked
worked settings (Is (Err fault)) = Is (Err fault)
worked settings (Is (Ok plan)) = Is (Ok (work_with settings plan))

-- what is done for a line with these specs: with -dumpspecs they are dumped
abbrev pub work_of : Facts → Line → Set → ℕ → Known (Result Work PlanFault)
work_of F line set seed = if line.settings.dump then Is (Ok (Dump (dumped set))) else worked line.settings (denoted F line set seed)

-- What arguments ask for. What words expand to is a relation, of which the law `one_expansion` says that it has one value or one refusal,
-- and never both; what follows are functions. So arguments ask for one work, or have one refusal, and never both: the law `one_ending`.
-- `words` is what the arguments expand to (`gives`), `line` is read from these (`reads`), and `set` is the specs that the line asks for
-- (`loads`). `works` gives the work. The names of temporaries contain the `seed`.
pub record Drives (F : Facts) (args : List (List ℕ)) (seed : ℕ) (work : Work) : Type 0 where
  pub words : Expanded
  pub line : Line
  pub set : Set
  pub gives : Words F args words
  pub reads : line_read words ≡ Ok line
  pub loads : specs_of F line.settings ≡ Is (Ok set)
  pub works : work_of F line set seed ≡ Is (Ok work)

-- The refusal of arguments: of their response files, of c99, of the line, of a spec file, or of the plan. None of these definitions knows
-- lack of memory.
pub data Refuses (F : Facts) (args : List (List ℕ)) (seed : ℕ) : Refusal → Type 0 where
  not_expanded : {fault : ArgsFault} → RefusesExpansion F 2000 (after_c99 args) fault → Refuses F args seed (Args fault)
  not_fronted : {expanded : Expanded} {fault : C99Fault} → Expands F 2000 (after_c99 args) (Ok expanded)
      → fronted (is_c99 args) expanded ≡ Err fault → Refuses F args seed (NoFront fault)
  not_read : {words : Expanded} {fault : ArgsFault} → Words F args words → line_read words ≡ Err fault → Refuses F args seed (Args fault)
  not_loaded : {words : Expanded} {line : Line} {fault : SpecsFault} → Words F args words → line_read words ≡ Ok line
      → specs_of F line.settings ≡ Is (Err fault) → Refuses F args seed (NoSpecs fault)
  not_planned : {words : Expanded} {line : Line} {set : Set} {fault : PlanFault} → Words F args words → line_read words ≡ Ok line
      → specs_of F line.settings ≡ Is (Ok set)
      → work_of F line set seed ≡ Is (Err fault) → Refuses F args seed (NoPlan fault)

-- how a step's fault ends the call
abbrev pub stopped_by_args : ArgsFault → Ending
stopped_by_args args_fault.Memory = OutOfMemory
stopped_by_args fault = Refused (Args fault)

-- how a fault of the front of c99 ends the call
abbrev pub stopped_by_c99 : C99Fault → Ending
stopped_by_c99 c99_fault.Memory = OutOfMemory
stopped_by_c99 fault = Refused (NoFront fault)

-- how a fault of the specs does
abbrev pub stopped_by_specs : SpecsFault → Ending
stopped_by_specs specs_fault.Memory = OutOfMemory
stopped_by_specs (specs_fault.Syntax name syntax_fault.Memory) = OutOfMemory
stopped_by_specs fault = Refused (NoSpecs fault)

-- how a fault of the plan does
abbrev pub stopped_by_plan : PlanFault → Ending
stopped_by_plan plan_fault.Memory = OutOfMemory
stopped_by_plan (plan_fault.Machine (machine_fault.Search search_fault.Memory)) = OutOfMemory
stopped_by_plan (plan_fault.Machine (machine_fault.Funcs funcs_fault.Memory)) = OutOfMemory
stopped_by_plan fault = Refused (NoPlan fault)

-- what arguments give: work, or an ending in its place; lack of memory may take the place of either
abbrev pub Comes : Facts → List (List ℕ) → ℕ → Result Work Ending → Type 0
Comes F args seed (Ok work) = Drives F args seed work
Comes F args seed (Err (Refused refusal)) = Refuses F args seed refusal
Comes F args seed (Err OutOfMemory) = ⊤
Comes F args seed (Err (Done status)) = ⊥

-- whether a refusal is lack of memory inside, as a fault of any layer could be
abbrev pub holds_memory : Refusal → Bool
holds_memory (Args args_fault.Memory) = true
holds_memory (NoFront c99_fault.Memory) = true
holds_memory (NoSpecs specs_fault.Memory) = true
holds_memory (NoSpecs (specs_fault.Syntax name syntax_fault.Memory)) = true
holds_memory (NoPlan plan_fault.Memory) = true
holds_memory (NoPlan (plan_fault.Machine machine_fault.Memory)) = true
holds_memory (NoPlan (plan_fault.Machine (machine_fault.Search search_fault.Memory))) = true
holds_memory (NoPlan (plan_fault.Machine (machine_fault.Funcs funcs_fault.Memory))) = true
holds_memory refusal = false

-- lack of memory is no refusal: an ending says it by its own name
abbrev pub IsApart : Ending → Type 0
IsApart (Refused refusal) = holds_memory refusal ≡ false
IsApart ending = ⊤
