use Rattle.drv_compile.specs.declared.compiling.Outcome.TheVariants.{Done, OutOfMemory, Unnoted}
use Rattle.drv_compile.specs.declared.compiling.Outcome.{Outcome}
use Rattle.std.specs.Prelude.{ℕ}

-- The exit status of the process (GCC manual, "Invoking GCC"; this project's profile).

abbrev pub status_of : Outcome → ℕ
status_of (Done status) = status
status_of (Unnoted status) = status
status_of OutOfMemory = 1

-- the outcome of a call in which a command of the compiler crashed: gcc's status is 4 (`ICE_EXIT_CODE` of gcc's driver)
abbrev pub after_crash : Outcome → Outcome
after_crash (Done status) = Done 4
after_crash (Unnoted status) = Unnoted 4
after_crash OutOfMemory = OutOfMemory
