use Rattle.drv_args.specs.Lines.{line_read}
use Rattle.drv_args.specs.declared.fault.ArgsFault.TheVariants as args_fault
use Rattle.drv_args.specs.declared.fault.ArgsFault.{ArgsFault}
use Rattle.drv_args.specs.declared.line.Expanded.{Expanded}
use Rattle.drv_args.specs.declared.line.Line.{Line}
use Rattle.drv_funcs.specs.declared.fault.FuncsFault.TheVariants as funcs_fault
use Rattle.drv_machine.specs.declared.fault.MachineFault.TheVariants as machine_fault
use Rattle.drv_plan.specs.Denoted.{denoted}
use Rattle.drv_plan.specs.declared.fault.PlanFault.TheVariants as plan_fault
use Rattle.drv_plan.specs.declared.fault.PlanFault.{PlanFault}
use Rattle.drv_run.specs.Drives.{Comes, Refuses, Words, not_expanded, not_fronted, not_loaded, not_planned, not_read}
use Rattle.drv_run.specs.Drives.{specs_of, stopped_by_args, stopped_by_plan, stopped_by_specs, work_of, work_with, worked}
use Rattle.drv_run.specs.Code.Deciding.{ComesOfSpecs}
use Rattle.drv_run.specs.Code.Wording.{GivesWords}
use Rattle.drv_run.specs.declared.ending.Ending.TheVariants.{Done, OutOfMemory, Refused}
use Rattle.drv_run.specs.declared.ending.Ending.{Ending}
use Rattle.drv_run.specs.declared.ending.Refusal.TheVariants.{Args, C99 as NoFront, Plan as NoPlan, Specs as NoSpecs}
use Rattle.drv_run.specs.declared.work.Work.TheVariants.{Dump}
use Rattle.drv_run.specs.declared.work.Work.{Work}
use Rattle.drv_search.specs.declared.fault.SearchFault.TheVariants as search_fault
use Rattle.drv_specs.specs.Dumping.{dumped}
use Rattle.drv_specs.specs.Sets.{Set}
use Rattle.drv_specs.specs.declared.fault.SpecsFault.TheVariants as specs_fault
use Rattle.drv_specs.specs.declared.fault.SpecsFault.{SpecsFault}
use Rattle.drv_syntax.specs.declared.fault.SyntaxFault.TheVariants as syntax_fault
use Rattle.drv_system.specs.Facts.{Facts}
use Rattle.drv_system.specs.Known.{Is, Known}
use Rattle.drv_words.specs.declared.plan.Plan.{Plan}
use Rattle.std.proofs.Common.{◌≡◌, ◌⊎◌, ◌∙◌, Err, IsErrAnd, List, Ok, Result, ap, false, inl, inr, subst, sym, true, ℕ}

-- For `work_of`: the fault of each step (words, line, specs, plan) is the refusal of the call, and lack of memory in any of them ends it
-- out of memory.
-- Names: `F` is what is known of the outside before the call. `args` is the arguments of the call. `seed` is the number from which names of
-- temporaries are made. `ending` is how the call ends. `set` is the specs. `line` is the line that was read. `result` is the work, or how
-- the call ends without it. `words` is the words of the line. `fault` is the fault of a step. `Comes F args seed result` says that
-- arguments ask for this work, or end the call so. `stopped_by_args` is the ending for a fault of the words or the line. `Refuses` says
-- that arguments are refused for this reason. `work_of` is the work for a line with its specs. `Words F args words` says that the arguments
-- give these words. `line_read words` is the line of words, or a refusal.

-- a call that ends without work
pub ended_as : (F : Facts) (args : List (List ℕ)) (seed : ℕ) (ending : Ending) (result : Result Work Ending)
    → IsErrAnd result (λ e. e ≡ ending) → Comes F args seed (Err ending) → Comes F args seed result
ended_as F args seed ending (Ok work) is comes = absurd is
ended_as F args seed ending (Err e) is comes = subst (λ e'. Comes F args seed (Err e')) (sym is) comes

-- a call without words ends as `words_of` says
without_words : (F : Facts) (args : List (List ℕ)) (seed : ℕ) (ending : Ending) → GivesWords F args (Err ending)
    → Comes F args seed (Err ending)
without_words F args seed (Done status) gives = absurd gives
without_words F args seed OutOfMemory gives = tt
without_words F args seed (Refused (Args fault)) gives = not_expanded gives
without_words F args seed (Refused (NoFront fault)) (expanded, expands, fronts) = not_fronted expands fronts
without_words F args seed (Refused (NoSpecs fault)) gives = absurd gives
without_words F args seed (Refused (NoPlan fault)) gives = absurd gives

-- without words the call ends so
pub words_end : (F : Facts) (args : List (List ℕ)) (seed : ℕ) (ending : Ending) (result : Result Work Ending)
    → IsErrAnd result (λ e. e ≡ ending) → GivesWords F args (Err ending) → Comes F args seed result
words_end F args seed ending result is gives = ended_as F args seed ending result is (without_words F args seed ending gives)

-- a refusal of response files or of the line, as the definition has it, ends the call
refused_args : (F : Facts) (args : List (List ℕ)) (seed : ℕ) (fault : ArgsFault) → Refuses F args seed (Args fault)
    → Comes F args seed (Err (stopped_by_args fault))
refused_args F args seed args_fault.Memory refused = tt
refused_args F args seed args_fault.TooManyFiles refused = refused
refused_args F args seed (args_fault.ResponseTooLarge path) refused = refused
refused_args F args seed args_fault.TooManyArguments refused = refused
refused_args F args seed (args_fault.MissingArgument option) refused = refused
refused_args F args seed (args_fault.BadJobs word) refused = refused
refused_args F args seed args_fault.NoInputs refused = refused
refused_args F args seed args_fault.StdinNeedsLanguage refused = refused
refused_args F args seed args_fault.OutputWithMany refused = refused
refused_args F args seed (args_fault.OutputIsInput input) refused = refused

-- the plan's refusal is the call's
refused_plan : (given : Known (Result Work PlanFault)) (fault : PlanFault) → given ≡ Is (Err fault)
    → ComesOfSpecs given (Err (stopped_by_plan fault))
refused_plan given plan_fault.Memory refused = tt
refused_plan given (plan_fault.Machine machine_fault.Memory) refused = refused
refused_plan given (plan_fault.Machine (machine_fault.UserError text)) refused = refused
refused_plan given (plan_fault.Machine machine_fault.SpecTooDeep) refused = refused
refused_plan given (plan_fault.Machine machine_fault.TooManySteps) refused = refused
refused_plan given (plan_fault.Machine machine_fault.NoInput) refused = refused
refused_plan given (plan_fault.Machine machine_fault.NotInLink) refused = refused
refused_plan given (plan_fault.Machine machine_fault.StrayPipe) refused = refused
refused_plan given (plan_fault.Machine machine_fault.PipeTooLong) refused = refused
refused_plan given (plan_fault.Machine (machine_fault.Search search_fault.Memory)) refused = tt
refused_plan given (plan_fault.Machine (machine_fault.Search (search_fault.ScriptMissing name))) refused = refused
refused_plan given (plan_fault.Machine (machine_fault.Funcs funcs_fault.Memory)) refused = tt
refused_plan given (plan_fault.Machine (machine_fault.Funcs (funcs_fault.VariableMissing name))) refused = refused
refused_plan given (plan_fault.Machine (machine_fault.Funcs (funcs_fault.WrongCount function))) refused = refused
refused_plan given (plan_fault.Machine (machine_fault.Funcs (funcs_fault.BadVersion word))) refused = refused
refused_plan given (plan_fault.Machine (machine_fault.Funcs (funcs_fault.NotInLink function))) refused = refused
refused_plan given (plan_fault.Machine (machine_fault.Funcs (funcs_fault.BadOperator word))) refused = refused
refused_plan given (plan_fault.UnknownLanguage name) refused = refused
refused_plan given (plan_fault.NotInstalled name) refused = refused

-- the refusal of a spec file is the call's
refused_specs : (F : Facts) (args : List (List ℕ)) (seed : ℕ) (fault : SpecsFault) → Refuses F args seed (NoSpecs fault)
    → Comes F args seed (Err (stopped_by_specs fault))
refused_specs F args seed specs_fault.Memory refused = tt
refused_specs F args seed (specs_fault.NoSuchFile path) refused = refused
refused_specs F args seed (specs_fault.Unreadable path) refused = refused
refused_specs F args seed (specs_fault.RenameMissing name) refused = refused
refused_specs F args seed (specs_fault.RenameTaken name) refused = refused
refused_specs F args seed (specs_fault.BadLine n) refused = refused
refused_specs F args seed specs_fault.IncludeTooDeep refused = refused
refused_specs F args seed (specs_fault.AliasOfAlias key) refused = refused
refused_specs F args seed (specs_fault.TrailingBackslash name) refused = refused
refused_specs F args seed (specs_fault.BadName name) refused = refused
refused_specs F args seed specs_fault.TooManyIncludes refused = refused
refused_specs F args seed (specs_fault.Syntax name syntax_fault.Memory) refused = tt
refused_specs F args seed (specs_fault.Syntax name (syntax_fault.BadDirective n)) refused = refused
refused_specs F args seed (specs_fault.Syntax name (syntax_fault.Unclosed n)) refused = refused
refused_specs F args seed (specs_fault.Syntax name (syntax_fault.StarOutside n)) refused = refused
refused_specs F args seed (specs_fault.Syntax name (syntax_fault.MixedStar n)) refused = refused
refused_specs F args seed (specs_fault.Syntax name (syntax_fault.TooNested n)) refused = refused
refused_specs F args seed (specs_fault.Syntax name (syntax_fault.UnknownFunction n)) refused = refused
refused_specs F args seed (specs_fault.Syntax name (syntax_fault.EmptyTest n)) refused = refused
refused_specs F args seed (specs_fault.Syntax name syntax_fault.TextTooLong) refused = refused

-- a fault that is lack of memory, or that refusal
by_args : (F : Facts) (args : List (List ℕ)) (seed : ℕ) (fault : ArgsFault) → (fault ≡ args_fault.Memory) ⊎ Refuses F args seed (Args fault)
    → Comes F args seed (Err (stopped_by_args fault))
by_args F args seed fault (inl memory) = subst (λ f. Comes F args seed (Err (stopped_by_args f))) (sym memory) tt
by_args F args seed fault (inr refused) = refused_args F args seed fault refused

-- a fault of a spec file is lack of memory, or the call's refusal
by_specs : (F : Facts) (args : List (List ℕ)) (seed : ℕ) (fault : SpecsFault)
    → (fault ≡ specs_fault.Memory) ⊎ Refuses F args seed (NoSpecs fault) → Comes F args seed (Err (stopped_by_specs fault))
by_specs F args seed fault (inl memory) = subst (λ f. Comes F args seed (Err (stopped_by_specs f))) (sym memory) tt
by_specs F args seed fault (inr refused) = refused_specs F args seed fault refused

-- the steps after the words

-- a line that can't be read ends the call
pub reading_ends : (F : Facts) (args : List (List ℕ)) (seed : ℕ) (words : Expanded) (fault : ArgsFault) (result : Result Work Ending)
    → IsErrAnd result (λ e. e ≡ stopped_by_args fault) → Words F args words → (fault ≡ args_fault.Memory) ⊎ (line_read words ≡ Err fault)
    → Comes F args seed result
reading_ends F args seed words fault result is gives (inl memory) =
    ended_as F args seed (stopped_by_args fault) result is (by_args F args seed fault (inl memory))
reading_ends F args seed words fault result is gives (inr reads) =
    ended_as F args seed (stopped_by_args fault) result is (by_args F args seed fault (inr (not_read gives reads)))

-- specs that can't be loaded end it
pub loading_ends : (F : Facts) (args : List (List ℕ)) (seed : ℕ) (words : Expanded) (line : Line) (fault : SpecsFault)
    (result : Result Work Ending)
    → IsErrAnd result (λ e. e ≡ stopped_by_specs fault) → Words F args words → line_read words ≡ Ok line
    → (fault ≡ specs_fault.Memory) ⊎ (specs_of F line.settings ≡ Is (Err fault)) → Comes F args seed result
loading_ends F args seed words line fault result is gives reads (inl memory) =
    ended_as F args seed (stopped_by_specs fault) result is (by_specs F args seed fault (inl memory))
loading_ends F args seed words line fault result is gives reads (inr loads) =
    ended_as F args seed (stopped_by_specs fault) result is (by_specs F args seed fault (inr (not_loaded gives reads loads)))

-- with line and specs, what the work gives is what the call gives
pub line_comes : (F : Facts) (args : List (List ℕ)) (seed : ℕ) (words : Expanded) (line : Line) (set : Set) (result : Result Work Ending)
    → Words F args words → line_read words ≡ Ok line → specs_of F line.settings ≡ Is (Ok set)
    → ComesOfSpecs (work_of F line set seed) result → Comes F args seed result
line_comes F args seed words line set (Ok work) gives reads loads works =
    record { words = words; line = line; set = set; gives = gives; reads = reads; loads = loads; works = works }
line_comes F args seed words line set (Err (Done status)) gives reads loads works = absurd works
line_comes F args seed words line set (Err OutOfMemory) gives reads loads works = tt
line_comes F args seed words line set (Err (Refused (Args fault))) gives reads loads works = absurd works
line_comes F args seed words line set (Err (Refused (NoFront fault))) gives reads loads works = absurd works
line_comes F args seed words line set (Err (Refused (NoSpecs fault))) gives reads loads works = absurd works
line_comes F args seed words line set (Err (Refused (NoPlan fault))) gives reads loads works = not_planned gives reads loads works

-- a fault of the plan ends the call: as lack of memory, or as the plan's refusal
pub planning_ends : (given : Known (Result Work PlanFault)) (fault : PlanFault) (result : Result Work Ending)
    → IsErrAnd result (λ e. e ≡ stopped_by_plan fault) → (fault ≡ plan_fault.Memory) ⊎ (given ≡ Is (Err fault)) → ComesOfSpecs given result
planning_ends given fault (Ok work) is refused = absurd is
planning_ends given fault (Err ending) is (inl memory) = subst (λ e. ComesOfSpecs given (Err e)) (sym (is ∙ ap stopped_by_plan memory)) tt
planning_ends given fault (Err ending) is (inr refused) =
    subst (λ e. ComesOfSpecs given (Err e)) (sym is) (refused_plan given fault refused)

-- what is done for a line

-- with -dumpspecs the work is the dump
pub work_dumped : (F : Facts) (line : Line) (set : Set) (seed : ℕ) (text : List ℕ) → line.settings.dump ≡ true → text ≡ dumped set
    → work_of F line set seed ≡ Is (Ok (Dump text))
work_dumped F line set seed text dumps is = rw dumps (ap (λ t. Is (Ok (Dump t))) (sym is))

-- without -dumpspecs the work is that of the plan
pub work_planned : (F : Facts) (line : Line) (set : Set) (seed : ℕ) (plan : Plan) (work : Work) → line.settings.dump ≡ false
    → denoted F line set seed ≡ Is (Ok plan)
    → work ≡ work_with line.settings plan → work_of F line set seed ≡ Is (Ok work)
work_planned F line set seed plan work dumps plans is = rw dumps (ap (worked line.settings) plans ∙ ap (λ w. Is (Ok w)) (sym is))

-- without -dumpspecs the plan's refusal is the work's
pub work_refused : (F : Facts) (line : Line) (set : Set) (seed : ℕ) (fault : PlanFault) → line.settings.dump ≡ false
    → (fault ≡ plan_fault.Memory) ⊎ (denoted F line set seed ≡ Is (Err fault))
    → (fault ≡ plan_fault.Memory) ⊎ (work_of F line set seed ≡ Is (Err fault))
work_refused F line set seed fault dumps (inl memory) = inl memory
work_refused F line set seed fault dumps (inr refused) = inr (rw dumps (ap (worked line.settings) refused))
