use Rattle.drv_args.specs.Lines.{line_read}
use Rattle.drv_args.specs.declared.line.Expanded.{Expanded}
use Rattle.drv_args.specs.declared.line.Line.{Line}
use Rattle.drv_run.specs.Drives.{Comes, Words}
use Rattle.drv_run.specs.declared.ending.Ending.TheVariants.{OutOfMemory, Refused}
use Rattle.drv_run.specs.declared.ending.Ending.{Ending}
use Rattle.drv_run.specs.declared.ending.Refusal.TheVariants.{Args, C99 as NoFront}
use Rattle.drv_system.specs.Facts.{Facts}
use Rattle.std.specs.Prelude.{◌≡◌, Err, List, Ok, Result, ℕ, ⊤}

-- The line of a call (GCC manual, "Overall Options"): the words that its arguments give, read. What hasn't a line is refused so whatever
-- its seed.

-- these arguments give this line
abbrev pub ReadsLine : Facts → List (List ℕ) → Line → Type 0
ReadsLine F args line = (words : Expanded) × Words F args words × (line_read words ≡ Ok line)

-- they give this line, or end the call so with any seed
abbrev pub ComesLine : Facts → List (List ℕ) → Result Line Ending → Type 0
ComesLine F args (Ok line) = ReadsLine F args line
ComesLine F args (Err ending) = (seed : ℕ) → Comes F args seed (Err ending)

-- a call without a line was refused for its words, or lacked memory
abbrev pub IsUnread : Ending → Type 0
IsUnread (Refused (Args fault)) = ⊤
IsUnread (Refused (NoFront fault)) = ⊤
IsUnread OutOfMemory = ⊤
IsUnread ending = ⊥
