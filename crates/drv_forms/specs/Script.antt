use Rattle.drv_forms.specs.Pieces.{text}
use Rattle.drv_forms.specs.Shell.{shell_word, spaced, stem_spaced, stem_text}
use Rattle.drv_forms.specs.declared.pieces.Piece.TheVariants.{Claim, Driver, EndFault, EndPipe, Fault, Folder, Into, Keep, NewStem}
use Rattle.drv_forms.specs.declared.pieces.Piece.TheVariants.{NotStarted, Opening, Pipe, Run, Say, Start, Status, Stem}
use Rattle.drv_forms.specs.declared.pieces.Piece.TheVariants.{Then, ThenNext, ToError, Unless}
use Rattle.drv_words.specs.Bytes.{newline, slash, underscore}
use Rattle.drv_words.specs.FileNames.{split_at_last}
use Rattle.drv_words.specs.declared.plan.Command.{Command}
use Rattle.drv_words.specs.declared.plan.Job.{Job}
use Rattle.drv_words.specs.declared.plan.Plan.{Plan}
use Rattle.drv_words.specs.declared.plan.Temp.{Temp}
use Rattle.std.specs.List.{flat_map}
use Rattle.std.specs.Prelude.{List, [], ◌∷◌, ◌++◌, None, Option, Some, codes, ℕ}

-- A plan as a script of the shell (POSIX XCU 2 "Shell Command Language"). It does what a run of the plan does, one source after another. A
-- temporary is claimed where nothing has its name. A job stops at its first fault and removes its failure files, if a command of it was
-- started; the other sources go on, and the link runs where all succeeded. At the end temporaries that were claimed and marked files are
-- removed, plain files alone. The status is 0, or 1 where something failed.
-- The temporaries are in a private folder, which mktemp makes beside their planned names; where it makes none, they keep these.
-- For clauses of src/scripting.rt and src/stems.rt. gdrv_specs cites it too.

-- The names of temporaries in the script. A planned one is a folder, `/cc`, the seed, `_`, a number, and a suffix of periods and letters
-- (`temp_name` of drv_machine/specs/Temps.antt).

-- the path of the first temporary of jobs
abbrev pub first_path : List Job → Option (List ℕ)
first_path [] = None
first_path (job ∷ jobs) = by job.temps (first_path jobs)
  where
    by : List Temp → Option (List ℕ) → Option (List ℕ)
    by [] later = later
    by (temp ∷ temps) later = Some temp.path

-- the path of the first temporary of a plan, the link's last
abbrev pub first_of_plan : Plan → Option (List ℕ)
first_of_plan plan = by (first_path plan.jobs) plan.link
  where
    by : Option (List ℕ) → Option Job → Option (List ℕ)
    by (Some path) link = Some path
    by None None = None
    by None (Some job) = first_path (job ∷ [])

-- the part of a path that all temporaries have: up to its last underscore, and with it
abbrev pub front_of : List ℕ → List ℕ
front_of path = by (split_at_last underscore path)
  where
    by : Option (List ℕ × List ℕ) → List ℕ
    by None = []
    by (Some parts) = parts.0 ++ underscore ∷ []

-- the same of a plan; nothing if it has no temporary
abbrev pub plan_front : Plan → List ℕ
plan_front plan = by (first_of_plan plan)
  where
    by : Option (List ℕ) → List ℕ
    by None = []
    by (Some path) = front_of path

-- the stem in such a part: from its last slash on
abbrev pub stem_of : List ℕ → List ℕ
stem_of front = by (split_at_last slash front)
  where
    by : Option (List ℕ × List ℕ) → List ℕ
    by None = []
    by (Some parts) = slash ∷ parts.1

-- the stem is given its variable: the planned one, and the private folder's if that is made
abbrev pub moving_text : List ℕ → List ℕ → List ℕ
moving_text front [] = []
moving_text front (b ∷ stem) =
    text Stem ++ shell_word (b ∷ stem) ++ text Folder ++ spaced (front ++ codes "XXXXXX") ++ text NewStem

-- The script's parts, in which this stem gives way to its variable.

-- the words of a command
abbrev pub command_text : List ℕ → Command → List ℕ
command_text stem command = stem_text stem (command.program ∷ command.words)

-- a notice, said on standard error in the driver's name
abbrev pub notice_text : List ℕ → List ℕ
notice_text notice = text Say ++ spaced (text Driver ++ notice) ++ text ToError

-- a file is put among those that are removed at the end
abbrev pub kept_text : List ℕ → List ℕ → List ℕ
kept_text stem path = text Keep ++ stem_spaced stem path

-- a marked file, which is removed at the end
abbrev pub marked_text : List ℕ → List ℕ → List ℕ
marked_text stem path = kept_text stem path ++ newline ∷ []

-- a temporary, which is claimed and then removed at the end
abbrev pub temp_text : List ℕ → Temp → List ℕ
temp_text stem temp =
    text Claim ++ stem_spaced stem temp.path ++ stem_spaced stem temp.contents ++ text Then ++ kept_text stem temp.path ++ text ThenNext

-- a command after the first of a pipe
abbrev pub member_text : List ℕ → Command → List ℕ
member_text stem command = text Into ++ command_text stem command

-- a pipe: its first command is looked for, and it fails where a command of it does
abbrev pub pipe_text : List ℕ → Command → List Command → List ℕ
pipe_text stem first others =
    text Start ++ stem_spaced stem first.program ++ text Pipe
    ++ command_text stem first ++ flat_map (member_text stem) others ++ text EndPipe

-- the commands of a group: one is run alone, and several in a pipe
abbrev pub group_text : List ℕ → List Command → List ℕ
group_text stem [] = []
group_text stem (command ∷ []) = text Run ++ command_text stem command ++ text ThenNext
group_text stem (first ∷ command ∷ commands) = pipe_text stem first (command ∷ commands)

-- what a fault of a job does
abbrev pub fault_text : List ℕ → List (List ℕ) → List ℕ
fault_text stem on_failure = text Fault ++ stem_text stem on_failure ++ text EndFault

-- what the script does for a job
abbrev pub steps_text : List ℕ → Job → List ℕ
steps_text stem job =
    flat_map (marked_text stem) job.marked ++ text NotStarted
    ++ flat_map (temp_text stem) job.temps ++ flat_map (group_text stem) job.groups ++ fault_text stem job.on_failure

-- a job without groups does nothing
abbrev pub job_if : List ℕ → List (List Command) → Job → List ℕ
job_if stem [] job = []
job_if stem (group ∷ groups) job = steps_text stem job

-- a job, if it has any group
abbrev pub job_text : List ℕ → Job → List ℕ
job_text stem job = job_if stem job.groups job

-- the link, which runs where no source failed
abbrev pub link_text : List ℕ → Option Job → List ℕ
link_text stem None = []
link_text stem (Some job) = text Unless ++ job_text stem job

-- the script of a plan whose temporaries have this front and stem
abbrev pub script_from : List ℕ → List ℕ → Plan → List ℕ
script_from front stem plan =
    text Opening ++ moving_text front stem ++ flat_map notice_text plan.notices
    ++ flat_map (job_text stem) plan.jobs ++ link_text stem plan.link ++ text Status

-- the script of a plan: gdrv-specs plan --sh prints it
abbrev pub script : Plan → List ℕ
script plan = script_from (plan_front plan) (stem_of (plan_front plan)) plan
