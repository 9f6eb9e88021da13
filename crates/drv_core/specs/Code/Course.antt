use Rattle.drv_core.specs.Code.Fleet.{Fleet, able, asked_of, fresh_fleet, selected, taken}
use Rattle.drv_core.specs.Code.Leftovers.{swept}
use Rattle.drv_core.specs.Code.Machine.{Out, Turn, asked, took}
use Rattle.drv_core.specs.Code.Turns.{is_inside, is_left}
use Rattle.drv_core.specs.Codes.{greatest_code}
use Rattle.drv_core.specs.Events.{none, removal_failed}
use Rattle.drv_core.specs.Story.{begin}
use Rattle.drv_words.specs.Places.{no_job}
use Rattle.drv_words.specs.declared.answers.Answer.{Answer}
use Rattle.drv_words.specs.declared.answers.Answer.TheVariants as answer
use Rattle.drv_words.specs.declared.plan.Job.{Job}
use Rattle.drv_words.specs.declared.plan.Plan.{Plan}
use Rattle.drv_words.specs.declared.steps.Note.TheVariants as note
use Rattle.drv_words.specs.declared.steps.Place.{Place}
use Rattle.drv_words.specs.declared.steps.RunEvent.{RunEvent}
use Rattle.drv_words.specs.declared.steps.Step.{Step}
use Rattle.drv_words.specs.declared.steps.Step.TheVariants as step
use Rattle.std.specs.Prelude.{Bool, List, [], ◌∷◌, ◌++◌, None, Option, Some, drop, false, if◌then◌else◌, length, nat_eq, not, true, unwrap_or, ℕ}

-- A whole run, step by step. Only private clauses cite it.

-- what a run does: its sources, the link, the removals at the end, the report of a failed one, nothing more
pub data Phase : Type 0 where
  Sources : Phase
  Link : Phase
  Removals : Phase
  Report : Phase
  Done : Phase

-- due: the files that are still to be removed at the end, in order. `link` is the turn of the link.
pub record Course : Type 0 where
  pub phase : Phase
  pub fleet : Fleet
  pub link : Turn
  pub due : List Place
  pub events : List RunEvent

-- the link's job; no job if there is no link
abbrev pub link_job : Plan → Job
link_job plan = unwrap_or plan.link no_job

-- the removal of the first file, if there is one
abbrev pub removes_first : List Place → Option Step
removes_first [] = None
removes_first (p ∷ ps) = Some (step.Remove p)

-- the report that the first file was not removed
abbrev pub reports_first : List Place → Option Step
reports_first [] = None
reports_first (p ∷ ps) = Some (step.Report (note.NotRemoved p))

-- the next step in a phase
abbrev pub asked_at : Plan → Phase → Course → Option Step
asked_at plan Sources c = asked_of plan.jobs c.fleet
asked_at plan Link c = asked (length plan.jobs) (link_job plan) c.link
asked_at plan Removals c = removes_first c.due
asked_at plan Report c = reports_first c.due
asked_at plan Done c = None

-- the next step
abbrev pub asked_by : Plan → Course → Option Step
asked_by plan c = asked_at plan c.phase c

-- the files of the list are removed next, if there are any
abbrev pub removing : Course → List Place → Course
removing c due = record c { phase = if none due then Done else Removals; due = due }

-- after the link
abbrev pub after_link : Plan → Course → Course
after_link plan c = removing c (swept plan c.events)

-- the link goes on, or the removals begin
abbrev pub linking : Plan → Course → Course
linking plan c = if is_left c.link then record c { phase = Link } else after_link plan c

-- after the sources the link is run if all codes are 0
abbrev pub after_sources : Plan → Course → Course
after_sources plan c = if nat_eq (greatest_code c.events) 0 then linking plan c else after_link plan c

-- the sources go on, or the link begins
abbrev pub sourced : Plan → Course → Course
sourced plan c = if nat_eq c.fleet.unended 0 then after_sources plan c else c

-- whether a removal failed; an answer of another kind counts as a failure
abbrev pub stays_there : Answer → Bool
stays_there (answer.Remove x) = removal_failed x
stays_there x = true

-- after the answer to a removal: its report if it failed, else the next file
abbrev pub removed : Course → Answer → Course
removed c x = if stays_there x then record c { phase = Report } else removing c (drop 1 c.due)

-- after an answer, whose event is already in the list
abbrev pub stepped_at : Plan → Phase → Course → Answer → Course
stepped_at plan Sources c x = sourced plan (record c { fleet = taken plan.jobs c.fleet x })
stepped_at plan Link c x = linking plan (record c { link = took (link_job plan) c.link x })
stepped_at plan Removals c x = removed c x
stepped_at plan Report c x = removing c (drop 1 c.due)
stepped_at plan Done c x = c

-- the course after a step and its answer
abbrev pub stepped : Plan → Course → Step → Answer → Course
stepped plan c q x = stepped_at plan c.phase (record c { events = c.events ++ record { step = q; answer = x } ∷ [] }) x

-- the course before the first step, in a window of N
abbrev pub first_course : Plan → ℕ → Course
first_course plan N = record {
  phase = Sources;
  fleet = fresh_fleet plan.jobs N;
  link = Out (begin (link_job plan));
  due = [];
  events = [];
}

-- without a source that has something to do it is past the sources already
abbrev pub fresh_course : Plan → ℕ → Course
fresh_course plan N = sourced plan (first_course plan N)

-- whether the next block belongs to a source and is not yet open
abbrev pub between_at : Phase → Fleet → Bool
between_at Sources f = not (is_inside (f.turns f.current))
between_at p f = false

abbrev pub between : Course → Bool
between c = between_at c.phase c.fleet

-- how many sources may go on; elsewhere 1
abbrev pub choices_of : Plan → Course → ℕ
choices_of plan c = if between c then length (able plan.jobs c.fleet) else 1

-- the k-th of them goes on
abbrev pub choosing : Course → ℕ → Course
choosing c k = if between c then record c { fleet = selected c.fleet k } else c
