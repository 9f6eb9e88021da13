use Rattle.drv_core.specs.Code.Course.{Course, Done, Link, Phase, Removals, Report, Sources, link_job}
use Rattle.drv_core.specs.Code.FleetView.{AllInRoom, fleet_of}
use Rattle.drv_core.specs.Code.LeftoverView.{IsFresh}
use Rattle.drv_core.specs.Code.SourceView.{InRoom, turn_of}
use Rattle.drv_core.specs.Needed.{needed}
use Rattle.drv_core.specs.declared.work.Phase.{Phase as CodePhase}
use Rattle.drv_core.specs.declared.work.Phase.TheVariants as code
use Rattle.drv_core.specs.declared.work.RunState.{RunState}
use Rattle.drv_words.specs.declared.plan.Plan.{Plan}
use Rattle.std.specs.Prelude.{◌≡◌, ◌<◌, ◌≤◌, ⊤, None, drop, length}
use Rattle.std.specs.Vec.{vec_capacity}

-- How a run in the code is seen. Only private clauses cite it.

-- the code's name of a phase
abbrev pub phase_of : CodePhase → Phase
phase_of code.Sources = Sources
phase_of code.Link = Link
phase_of code.Removals = Removals
phase_of code.Report = Report
phase_of code.Done = Done

-- the code's run
abbrev pub course_of : Plan → RunState → Course
course_of plan w = record {
  phase = phase_of w.phase;
  fleet = fleet_of plan.jobs w.fleet;
  link = turn_of (link_job plan) w.link;
  due = drop w.leftovers.at w.leftovers.due.items;
  events = w.events.items;
}

-- what the code relies on before the next step
abbrev pub ReadyAt : CodePhase → Plan → RunState → Type 0
ReadyAt code.Sources plan w = (w.fleet.current < length plan.jobs) × (w.fleet.current < length w.fleet.sources.items)
    × (length w.fleet.begun.items < vec_capacity w.fleet.begun)
ReadyAt code.Link plan w = plan.link ≡ None → ⊥
ReadyAt code.Removals plan w = w.leftovers.at < length w.leftovers.due.items
ReadyAt code.Report plan w = w.leftovers.at < length w.leftovers.due.items
ReadyAt code.Done plan w = ⊤

abbrev pub Ready : Plan → RunState → Type 0
Ready plan w = ReadyAt w.phase plan w

-- room for the children of each job, and for all events
pub record Rooms (plan : Plan) (w : RunState) : Type 0 where
  pub sources : length w.fleet.sources.items ≡ length plan.jobs
  pub children : AllInRoom plan.jobs w.fleet.sources.items
  pub begun : w.fleet.window < vec_capacity w.fleet.begun
  pub link : InRoom (link_job plan) w.link
  pub events : needed plan ≤ vec_capacity w.events

-- before the removals the leftover files are as they were made
abbrev pub UnsweptAt : CodePhase → Plan → RunState → Type 0
UnsweptAt code.Sources plan w = IsFresh plan w.leftovers
UnsweptAt code.Link plan w = IsFresh plan w.leftovers
UnsweptAt p plan w = ⊤

abbrev pub Unswept : Plan → RunState → Type 0
Unswept plan w = UnsweptAt w.phase plan w
