use Rattle.drv_args.specs.declared.fault.ArgsFault.TheVariants as args_fault
use Rattle.drv_args.specs.declared.fault.ArgsFault.{ArgsFault}
use Rattle.drv_args.specs.declared.line.Line.{Line}
use Rattle.drv_compile.specs.Runs.{has_several, work_served}
use Rattle.drv_plan.specs.declared.fault.PlanFault.{PlanFault}
use Rattle.drv_run.specs.Drives.{stopped_by_args, stopped_by_plan}
use Rattle.drv_run.specs.declared.ending.Ending.TheVariants.{OutOfMemory}
use Rattle.drv_run.specs.declared.ending.Ending.{Ending}
use Rattle.drv_run.specs.declared.work.Work.{Work}
use Rattle.drv_specs.specs.Sets.{Set}
use Rattle.drv_system.specs.Facts.{Facts}
use Rattle.drv_system.specs.Known.{Is}
use Rattle.std.specs.Prelude.{◌≡◌, ◌⊎◌, Err, Ok, Result, false, true, ℕ}

-- The work of a line over a set that is loaded. Only private clauses of src/running.rt and src/sources.rt cite it.
-- Names: `F` is what is known of the outside. `line` is the driver's line. `set` is its spec texts. `seed` is that for the names of
-- temporaries. `work` is what is done. `has_several` says that one -o is for several sources (specs/Runs).

-- several sources are refused, unless memory lacks
abbrev pub Judges : {X : Type 0} → Set → Line → Result X ArgsFault → Type 0
Judges set line (Ok x) = has_several set line ≡ false
Judges set line (Err fault) = (fault ≡ args_fault.Memory) ⊎ ((fault ≡ args_fault.OutputWithMany) × (has_several set line ≡ true))

-- a line has this work, and no output for several sources
abbrev pub IsWorked : Facts → Line → Set → ℕ → Work → Type 0
IsWorked F line set seed work = (has_several set line ≡ false) × (work_served F line set seed ≡ Is (Ok work))

-- why a line has no work: memory, several sources for one output, or the plan
pub data IsUnworked (F : Facts) (line : Line) (set : Set) (seed : ℕ) : Ending → Type 0 where
  no_room : IsUnworked F line set seed OutOfMemory
  of_many : has_several set line ≡ true → IsUnworked F line set seed (stopped_by_args args_fault.OutputWithMany)
  of_plan : {fault : PlanFault} → has_several set line ≡ false → work_served F line set seed ≡ Is (Err fault)
      → IsUnworked F line set seed (stopped_by_plan fault)
