use Rattle.drv_args.specs.Lines.{line_read}
use Rattle.drv_args.specs.declared.line.Expanded.{Expanded}
use Rattle.drv_args.specs.declared.line.Line.{Line}
use Rattle.drv_plan.specs.declared.fault.PlanFault.{PlanFault}
use Rattle.drv_run.specs.Drives.{Comes, Words}
use Rattle.drv_run.specs.declared.ending.Ending.TheVariants.{OutOfMemory, Refused}
use Rattle.drv_run.specs.declared.ending.Ending.{Ending}
use Rattle.drv_run.specs.declared.ending.Refusal.TheVariants.{Plan as NoPlan}
use Rattle.drv_run.specs.declared.work.Work.{Work}
use Rattle.drv_system.specs.Facts.{Facts}
use Rattle.drv_system.specs.Known.{Is, Known}
use Rattle.std.specs.Prelude.{◌≡◌, Err, List, Ok, Result, ℕ, ⊤}

-- What a line asks for, as arguments do (`Comes`). Only private clauses cite it.
-- Names: `given` is the work of a line with its specs, or the refusal of its plan. `F` is what is known of the outside. `line` is the line,
-- `args` the arguments, and `words` what they expand to. `seed` is that for the names of temporaries. `Comes` is in specs/Drives.

-- with its specs: the work that is given for it, or the refusal of its plan; lack of memory may take the place of either
abbrev pub ComesOfSpecs : Known (Result Work PlanFault) → Result Work Ending → Type 0
ComesOfSpecs given (Ok work) = given ≡ Is (Ok work)
ComesOfSpecs given (Err (Refused (NoPlan fault))) = given ≡ Is (Err fault)
ComesOfSpecs given (Err OutOfMemory) = ⊤
ComesOfSpecs given (Err ending) = ⊥

-- as any words do that are read as this line
abbrev pub ComesOfLine : Facts → Line → ℕ → Result Work Ending → Type 0
ComesOfLine F line seed result = (args : List (List ℕ)) (words : Expanded) → Words F args words → line_read words ≡ Ok line
    → Comes F args seed result
