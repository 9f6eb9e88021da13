use Rattle.drv_run.specs.Texts.{refusal_line}
use Rattle.drv_run.specs.declared.ending.Ending.TheVariants.{Done, OutOfMemory, Refused}
use Rattle.drv_run.specs.declared.ending.Ending.{Ending}
use Rattle.std.specs.Prelude.{List, [], codes, ℕ}

-- How the process of a call ends (GCC manual, "Invoking GCC"; this project's profile).

-- the exit status of a call that ended so
abbrev pub exit_status_of : Ending → ℕ
exit_status_of (Done status) = status
exit_status_of ending = 1

-- what standard error gets after what the call said itself
abbrev pub told_of : Ending → List ℕ
told_of (Done status) = []
told_of (Refused refusal) = refusal_line refusal
told_of OutOfMemory = codes "gdrv: out of memory\n"
