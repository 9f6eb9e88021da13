use Rattle.drv_words.specs.declared.plan.Command.{Command}
use Rattle.drv_words.specs.declared.plan.Job.{Job}
use Rattle.drv_words.specs.declared.plan.Plan.{Plan}
use Rattle.drv_words.specs.declared.steps.Note.{Note}
use Rattle.drv_words.specs.declared.steps.Note.TheVariants as note
use Rattle.drv_words.specs.declared.steps.Place.{Place}
use Rattle.drv_words.specs.declared.steps.Place.TheVariants as place
use Rattle.std.specs.Option.{option_to_list}
use Rattle.std.specs.Prelude.{◌++◌, Bool, List, [], None, false, get_or, length, nat_lt, ℕ}

-- Which places a plan has, and their kinds (this project's profile).

-- a job that has nothing to do
abbrev pub no_job : Job
no_job = record { source = None; groups = []; temps = []; marked = []; on_failure = []; output = None }

-- the job of a number: the sources in order, then the link
abbrev pub job_at : Plan → ℕ → Job
job_at plan k = get_or (plan.jobs ++ option_to_list plan.link) k no_job

-- the commands of group g of a job
abbrev pub group_at : Job → ℕ → List Command
group_at job g = get_or job.groups g []

-- whether a place is that of a command of the plan
abbrev pub is_command : Plan → Place → Bool
is_command plan (place.Command k g i) = nat_lt i (length (group_at (job_at plan k) g))
is_command plan (place.Temp k i) = false
is_command plan (place.Marked k i) = false
is_command plan (place.OnFailure k i) = false

-- a temporary file of the plan
abbrev pub is_temp : Plan → Place → Bool
is_temp plan (place.Command k g i) = false
is_temp plan (place.Temp k i) = nat_lt i (length (job_at plan k).temps)
is_temp plan (place.Marked k i) = false
is_temp plan (place.OnFailure k i) = false

-- whether a place is that of a file of the plan, of any kind
abbrev pub is_file : Plan → Place → Bool
is_file plan (place.Command k g i) = false
is_file plan (place.Temp k i) = nat_lt i (length (job_at plan k).temps)
is_file plan (place.Marked k i) = nat_lt i (length (job_at plan k).marked)
is_file plan (place.OnFailure k i) = nat_lt i (length (job_at plan k).on_failure)

-- a note about a place of the right kind that the plan has
abbrev pub is_note : Plan → Note → Bool
is_note plan (note.NotClaimed p) = is_temp plan p
is_note plan (note.NotStarted p) = is_command plan p
is_note plan (note.Signalled p) = is_command plan p
is_note plan (note.Lost p) = is_command plan p
is_note plan (note.NotRemoved p) = is_file plan p
