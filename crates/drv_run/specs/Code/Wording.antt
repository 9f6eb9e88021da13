use Rattle.drv_args.specs.Expansion.{Expands, Refuses as RefusesExpansion}
use Rattle.drv_args.specs.declared.line.Expanded.{Expanded}
use Rattle.drv_run.specs.Drives.{Words, after_c99, fronted, is_c99}
use Rattle.drv_run.specs.declared.ending.Ending.TheVariants.{Done, OutOfMemory, Refused}
use Rattle.drv_run.specs.declared.ending.Ending.{Ending}
use Rattle.drv_run.specs.declared.ending.Refusal.TheVariants.{Args, C99 as NoFront, Plan as NoPlan, Specs as NoSpecs}
use Rattle.drv_system.specs.Facts.{Facts}
use Rattle.std.specs.Prelude.{◌≡◌, Err, List, Ok, Result, ℕ, ⊤}

-- What the words of a line ask for. Only private clauses cite it: `Refuses` says what a call's refusals are.
-- Names: `F` is what is known of the outside. `args` is the arguments. `fault` is why they are refused. `after_c99` is these as the
-- driver's, if the call is of c99.

-- the words of a line, or its refusal
abbrev pub GivesWords : Facts → List (List ℕ) → Result Expanded Ending → Type 0
GivesWords F args (Ok words) = Words F args words
GivesWords F args (Err OutOfMemory) = ⊤
GivesWords F args (Err (Done status)) = ⊥
GivesWords F args (Err (Refused (Args fault))) = RefusesExpansion F 2000 (after_c99 args) fault
GivesWords F args (Err (Refused (NoFront fault))) =
    (expanded : Expanded) × Expands F 2000 (after_c99 args) (Ok expanded) × (fronted (is_c99 args) expanded ≡ Err fault)
GivesWords F args (Err (Refused (NoSpecs fault))) = ⊥
GivesWords F args (Err (Refused (NoPlan fault))) = ⊥
