use Rattle.drv_args.specs.declared.fault.ArgsFault.TheVariants as args_fault
use Rattle.drv_args.specs.declared.fault.ArgsFault.{ArgsFault}
use Rattle.drv_args.specs.declared.line.Line.{Line}
use Rattle.drv_args.specs.declared.line.Settings.{Settings}
use Rattle.drv_compile.specs.Code.Working.{IsUnworked, IsWorked, no_room, of_many, of_plan}
use Rattle.drv_compile.specs.Runs.{Stops, Works, has_several, lacks_memory, line_given, not_loaded, not_planned, not_read, several}
use Rattle.drv_compile.specs.Runs.{specs_of, work_served}
use Rattle.drv_compile.specs.declared.running.DriverLine.{DriverLine}
use Rattle.drv_plan.specs.declared.fault.PlanFault.TheVariants as plan_fault
use Rattle.drv_plan.specs.declared.fault.PlanFault.{PlanFault}
use Rattle.drv_run.specs.Drives.{specs_over, stopped_by_args, stopped_by_plan, stopped_by_specs}
use Rattle.drv_run.specs.declared.ending.Ending.TheVariants as ending
use Rattle.drv_run.specs.declared.ending.Ending.{Ending}
use Rattle.drv_run.specs.declared.work.Work.{Work}
use Rattle.drv_specs.specs.Builtin.{suffixes}
use Rattle.drv_specs.specs.Sets.{Set}
use Rattle.drv_specs.specs.declared.fault.SpecsFault.TheVariants as specs_fault
use Rattle.drv_specs.specs.declared.fault.SpecsFault.{SpecsFault}
use Rattle.drv_system.specs.Facts.{Facts}
use Rattle.drv_system.specs.Gives.{GivesKnown}
use Rattle.drv_system.specs.Known.{Is}
use Rattle.std.proofs.Common.{◌≡◌, ◌⊎◌, Err, IsErrAnd, Ok, Result, false, inl, inr, subst, sym, true, ℕ}
use Rattle.std.specs.Prelude.{MatchResult}

-- For a line that is carried out (src/running.rt): how items of the driver's line end a call.
-- Names: `F` is what is known of the outside. `own` is what the driver is called with: items. `line` is the same as a line. `set` is its
-- spec texts. `seed` is that for the names of temporaries. `fault` is why a step is refused. `result` is what the code's call gives: the
-- work, or how the call ends. `IsErrAnd result P`: there is a fault, of which P holds. `line_given`, `specs_of` and `has_several` are the
-- steps of the definition (specs/Runs), and `Stops` says how it ends. `stopped_by_args` and its like turn a fault into an ending (drv_run).

-- what a line with its specs gives
abbrev pub Worked : Facts → Line → Set → ℕ → Result Work Ending → Type 0
Worked F line set seed result = MatchResult result (λ work. IsWorked F line set seed work) (λ ending. IsUnworked F line set seed ending)

-- what a step's fault makes of the call
abbrev pub Comes : Facts → DriverLine → ℕ → Result Work Ending → Type 0
Comes F own seed result = MatchResult result (λ work. Works F own seed work) (λ ending. Stops F own seed ending)

-- a step that fails is the end of `work_of_items`
ended_as : (F : Facts) (own : DriverLine) (seed : ℕ) (stop : Ending) (result : Result Work Ending) → IsErrAnd result (λ e. e ≡ stop)
    → Stops F own seed stop → Comes F own seed result
ended_as F own seed stop (Ok work) is stops = absurd is
ended_as F own seed stop (Err e) is stops = subst (λ e'. Stops F own seed e') (sym is) stops

-- the refusal of a line ends it, or lack of memory
args_stop : (F : Facts) (own : DriverLine) (seed : ℕ) (fault : ArgsFault) → (fault ≡ args_fault.Memory) ⊎ (line_given own ≡ Err fault)
    → Stops F own seed (stopped_by_args fault)
args_stop F own seed fault (inl memory) = subst (λ f. Stops F own seed (stopped_by_args f)) (sym memory) lacks_memory
args_stop F own seed fault (inr is) = not_read is

-- lack of memory ends it
pub memory_ends : (F : Facts) (own : DriverLine) (seed : ℕ) (result : Result Work Ending) → IsErrAnd result (λ e. e ≡ ending.OutOfMemory)
    → Comes F own seed result
memory_ends F own seed result is = ended_as F own seed ending.OutOfMemory result is lacks_memory

-- If the line is refused, or memory lacked, then the items end so.
pub reading_ends : (F : Facts) (own : DriverLine) (seed : ℕ) (fault : ArgsFault) (result : Result Work Ending)
    → IsErrAnd result (λ e. e ≡ stopped_by_args fault)
    → (fault ≡ args_fault.Memory) ⊎ (line_given own ≡ Err fault) → Comes F own seed result
reading_ends F own seed fault result is given = ended_as F own seed (stopped_by_args fault) result is (args_stop F own seed fault given)

-- the refusal of a spec file ends it, or lack of memory
specs_stop : (F : Facts) (own : DriverLine) (seed : ℕ) (line : Line) (fault : SpecsFault) → line_given own ≡ Ok line
    → (fault ≡ specs_fault.Memory) ⊎ (specs_of F line.settings ≡ Is (Err fault)) → Stops F own seed (stopped_by_specs fault)
specs_stop F own seed line fault reads (inl memory) = subst (λ f. Stops F own seed (stopped_by_specs f)) (sym memory) lacks_memory
specs_stop F own seed line fault reads (inr is) = not_loaded reads is

-- If a spec file is refused, or memory lacked, then the items end so.
pub loading_ends : (F : Facts) (own : DriverLine) (seed : ℕ) (line : Line) (fault : SpecsFault) (result : Result Work Ending)
    → IsErrAnd result (λ e. e ≡ stopped_by_specs fault)
    → line_given own ≡ Ok line → (fault ≡ specs_fault.Memory) ⊎ (specs_of F line.settings ≡ Is (Err fault)) → Comes F own seed result
loading_ends F own seed line fault result is reads given =
    ended_as F own seed (stopped_by_specs fault) result is (specs_stop F own seed line fault reads given)

-- several sources with one output, and the plan

-- a step that fails is the end of `line_work`
unworked_as : (F : Facts) (line : Line) (set : Set) (seed : ℕ) (stop : Ending) (result : Result Work Ending)
    → IsErrAnd result (λ e. e ≡ stop) → IsUnworked F line set seed stop
    → Worked F line set seed result
unworked_as F line set seed stop (Ok work) is unworked = absurd is
unworked_as F line set seed stop (Err e) is unworked = subst (λ e'. IsUnworked F line set seed e') (sym is) unworked

-- several sources with one output end it, or lack of memory
many_unworked : (F : Facts) (line : Line) (set : Set) (seed : ℕ) (fault : ArgsFault)
    → (fault ≡ args_fault.Memory) ⊎ ((fault ≡ args_fault.OutputWithMany) × (has_several set line ≡ true))
    → IsUnworked F line set seed (stopped_by_args fault)
many_unworked F line set seed fault (inl memory) = subst (λ f. IsUnworked F line set seed (stopped_by_args f)) (sym memory) no_room
many_unworked F line set seed fault (inr (is, two)) = subst (λ f. IsUnworked F line set seed (stopped_by_args f)) (sym is) (of_many two)

-- If several sources have one output, or memory lacked, then the line has no work.
pub many_end : (F : Facts) (line : Line) (set : Set) (seed : ℕ) (fault : ArgsFault) (result : Result Work Ending)
    → IsErrAnd result (λ e. e ≡ stopped_by_args fault)
    → (fault ≡ args_fault.Memory) ⊎ ((fault ≡ args_fault.OutputWithMany) × (has_several set line ≡ true)) → Worked F line set seed result
many_end F line set seed fault result is given = unworked_as F line set seed (stopped_by_args fault) result is
    (many_unworked F line set seed fault given)

-- the refusal of a plan ends it, or lack of memory
plan_unworked : (F : Facts) (line : Line) (set : Set) (seed : ℕ) (fault : PlanFault) → has_several set line ≡ false
    → (fault ≡ plan_fault.Memory) ⊎ (work_served F line set seed ≡ Is (Err fault)) → IsUnworked F line set seed (stopped_by_plan fault)
plan_unworked F line set seed fault single (inl memory) = subst (λ f. IsUnworked F line set seed (stopped_by_plan f)) (sym memory) no_room
plan_unworked F line set seed fault single (inr is) = of_plan single is

-- If the plan is refused, or memory lacked, then the line has no work.
pub planning_ends : (F : Facts) (line : Line) (set : Set) (seed : ℕ) (fault : PlanFault) (result : Result Work Ending)
    → IsErrAnd result (λ e. e ≡ stopped_by_plan fault)
    → has_several set line ≡ false → (fault ≡ plan_fault.Memory) ⊎ (work_served F line set seed ≡ Is (Err fault))
    → Worked F line set seed result
planning_ends F line set seed fault result is single given =
    unworked_as F line set seed (stopped_by_plan fault) result is (plan_unworked F line set seed fault single given)

-- For `work_of_items`: if a line was read and its set loaded, then its work, or how it ends, is that of the items.
pub working_comes : (F : Facts) (own : DriverLine) (seed : ℕ) (line : Line) (set : Set) (result : Result Work Ending)
    → line_given own ≡ Ok line → specs_of F line.settings ≡ Is (Ok set)
    → Worked F line set seed result → Comes F own seed result
working_comes F own seed line set (Ok work) reads loads worked =
    record { line = line; set = set; reads = reads; loads = loads; single = worked.0; works = worked.1 }
working_comes F own seed line set (Err ending) reads loads unworked = by ending unworked
  where
    -- Plan: `by` turns each reason why the line has no work into one why the items end.
    by : (e : Ending) → IsUnworked F line set seed e → Stops F own seed e
    by e no_room = lacks_memory
    by e (of_many two) = several reads loads two
    by e (of_plan single is) = not_planned reads loads single is

-- the suffixes, and files over them
pub suffixes_given : (F : Facts) (settings : Settings) (set : Set) (result : Result Set SpecsFault) → set ≡ suffixes
    → GivesKnown specs_fault.Memory (λ loaded. loaded) result (specs_over F set settings)
    → GivesKnown specs_fault.Memory (λ loaded. loaded) result (specs_of F settings)
suffixes_given F settings set result is gives = subst
    (λ s. GivesKnown specs_fault.Memory (λ loaded. loaded) result (specs_over F s settings)) is gives
