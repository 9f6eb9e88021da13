use Rattle.drv_system.specs.declared.reports.Reporter.{Reporter}
use Rattle.drv_system.specs.declared.reports.Reporter.TheVariants as reporter
use Rattle.drv_words.specs.Bytes.{newline}
use Rattle.drv_words.specs.Places.{group_at, job_at}
use Rattle.drv_words.specs.declared.plan.Command.{Command}
use Rattle.drv_words.specs.declared.plan.Plan.{Plan}
use Rattle.drv_words.specs.declared.plan.Temp.{Temp}
use Rattle.drv_words.specs.declared.steps.Note.{Note}
use Rattle.drv_words.specs.declared.steps.Note.TheVariants as note
use Rattle.drv_words.specs.declared.steps.Place.{Place}
use Rattle.drv_words.specs.declared.steps.Place.TheVariants as place
use Rattle.std.specs.Option.{option_map, unwrap_or}
use Rattle.std.specs.Prelude.{◌++◌, List, [], ◌∷◌, None, Option, codes, slice_get, ℕ}

-- What the places of a plan hold, and the message for each (this project's profile). The result is None if the plan has no such place, or
-- if its kind is another.

-- the command at a place
abbrev pub command_at : Plan → Place → Option Command
command_at plan (place.Command k g i) = slice_get (group_at (job_at plan k) g) i
command_at plan (place.Temp k i) = None
command_at plan (place.Marked k i) = None
command_at plan (place.OnFailure k i) = None

-- the temporary at a place
abbrev pub temp_at : Plan → Place → Option Temp
temp_at plan (place.Command k g i) = None
temp_at plan (place.Temp k i) = slice_get (job_at plan k).temps i
temp_at plan (place.Marked k i) = None
temp_at plan (place.OnFailure k i) = None

-- the path of a file, or the program of a command
abbrev pub name_at : Plan → Place → Option (List ℕ)
name_at plan (place.Command k g i) = option_map (λ (c : Command). c.program) (command_at plan (place.Command k g i))
name_at plan (place.Temp k i) = option_map (λ (t : Temp). t.path) (temp_at plan (place.Temp k i))
name_at plan (place.Marked k i) = slice_get (job_at plan k).marked i
name_at plan (place.OnFailure k i) = slice_get (job_at plan k).on_failure i

-- the name of the program that reports, as messages begin with it
abbrev pub reporter_prefix : Reporter → List ℕ
reporter_prefix reporter.Gdrv = codes "gdrv: "
reporter_prefix reporter.GdrvCc = codes "gdrv-cc: "

-- the line that reports a failed step
abbrev pub line_of : Reporter → List ℕ → Option (List ℕ) → List ℕ → List ℕ
line_of r before name after = reporter_prefix r ++ before ++ unwrap_or name [] ++ after ++ newline ∷ []

-- the line that reports a note
abbrev pub note_line : Reporter → Plan → Note → List ℕ
note_line r plan (note.NotClaimed p) = line_of r (codes "cannot claim ") (name_at plan p) []
note_line r plan (note.NotStarted p) = line_of r (codes "cannot start ") (name_at plan p) []
note_line r plan (note.Signalled p) = line_of r [] (name_at plan p) (codes " was ended by a signal")
note_line r plan (note.Lost p) = line_of r [] (name_at plan p) (codes " was lost")
note_line r plan (note.NotRemoved p) = line_of r (codes "cannot remove ") (name_at plan p) []
