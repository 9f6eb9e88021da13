use Rattle.drv_core.specs.Code.Machine.{ClaimReport, Closing, Group, In, Out, RemovalReport, StartReport, Turn, WaitReport}
use Rattle.drv_core.specs.Story.{Claims, Fresh, Kid, Over, Removes, Starts, Waits}
use Rattle.drv_core.specs.declared.source.GroupState.{GroupState}
use Rattle.drv_core.specs.declared.source.GroupState.TheVariants.{Failed, Sound}
use Rattle.drv_core.specs.declared.source.SourceState.{SourceState}
use Rattle.drv_core.specs.declared.source.Stage.{Stage}
use Rattle.drv_core.specs.declared.source.Stage.TheVariants as code
use Rattle.drv_words.specs.Places.{group_at}
use Rattle.drv_words.specs.declared.plan.Job.{Job}
use Rattle.std.specs.Prelude.{◌≡◌, ◌+◌, ◌-◌, ◌<◌, ◌≤◌, ⊤, Bool, List, [], ◌∷◌, drop, false, get_or, length, true, ℕ}
use Rattle.std.specs.Vec.{vec_capacity}

-- What a source of the code stands for. Only private clauses cite it.

-- the children of a group, from member i on
abbrev pub kids_from : ℕ → List ℕ → List Kid
kids_from i [] = []
kids_from i (id ∷ ids) = record { member = i; id = id } ∷ kids_from (i + 1) ids

-- child i of a group
abbrev pub kid_at : List ℕ → ℕ → Kid
kid_at ids i = record { member = i; id = get_or ids i 0 }

-- whether a command of a group has failed
abbrev pub has_failed : GroupState → Bool
has_failed Sound = false
has_failed Failed = true

-- the stage, of this job, with these children
abbrev pub turn_at : Job → Stage → List ℕ → Turn
turn_at job code.Fresh ids = Out Fresh
turn_at job (code.Claims i) ids = Out (Claims i (drop (i + 1) job.temps))
turn_at job (code.ClaimReport i) ids = In (ClaimReport i)
turn_at job (code.Starts g) ids = Out (Starts g (length (group_at job g) - 1) (drop (g + 1) job.groups))
turn_at job (code.Group g) ids =
    In (Group g (length ids) (length (group_at job g) - 1 - length ids) (kids_from 0 ids) (drop (g + 1) job.groups))
turn_at job (code.StartReport g) ids = In (StartReport g (length ids) (kids_from 0 ids) (drop (g + 1) job.groups))
turn_at job (code.Closing g) ids = In (Closing g (kids_from 0 ids) (drop (g + 1) job.groups))
turn_at job (code.Waits w) ids =
    Out (Waits w.group (has_failed w.state) (kid_at ids w.index) (drop (w.index + 1) (kids_from 0 ids)) (drop (w.group + 1) job.groups))
turn_at job (code.SignalReport w) ids =
    In (WaitReport w.group (kid_at ids w.index) false (drop (w.index + 1) (kids_from 0 ids)) (drop (w.group + 1) job.groups))
turn_at job (code.LossReport w) ids =
    In (WaitReport w.group (kid_at ids w.index) true (drop (w.index + 1) (kids_from 0 ids)) (drop (w.group + 1) job.groups))
turn_at job (code.Removals i) ids = Out (Removes i (drop (i + 1) job.on_failure))
turn_at job (code.RemovalReport i) ids = In (RemovalReport i (drop (i + 1) job.on_failure))
turn_at job code.Ended ids = Out Over

-- the source's turn
abbrev pub turn_of : Job → SourceState → Turn
turn_of job s = turn_at job s.stage s.children.items

-- Before a start there is room for one more child: there is room for all of a group, and in the middle of a group not all were started.
abbrev pub InGroup : Job → Stage → List ℕ → Type 0
InGroup job (code.Starts g) ids = ids ≡ []
InGroup job (code.Group g) ids = length ids < length (group_at job g)
InGroup job s ids = ⊤

pub record InRoom (job : Job) (s : SourceState) : Type 0 where
  pub one : 1 ≤ vec_capacity s.children
  pub each : (g : ℕ) → length (group_at job g) ≤ vec_capacity s.children
  pub within : InGroup job s.stage s.children.items
