use Rattle.drv_core.specs.Links.{job_failed}
use Rattle.drv_core.specs.Started.{started_in}
use Rattle.drv_core.specs.Windowed.{due}
use Rattle.drv_core.specs.Events.{none}
use Rattle.drv_words.specs.Places.{job_at}
use Rattle.drv_words.specs.declared.plan.Plan.{Plan}
use Rattle.drv_words.specs.declared.steps.Place.{Place}
use Rattle.drv_words.specs.declared.steps.Place.TheVariants as place
use Rattle.drv_words.specs.declared.steps.RunEvent.{RunEvent}
use Rattle.drv_words.specs.declared.steps.Step.{Step}
use Rattle.drv_words.specs.declared.steps.Step.TheVariants as step
use Rattle.std.specs.List.{flat_map, list_any}
use Rattle.std.specs.Prelude.{◌≡◌, ◌≤◌, ◌+◌, ◌&&◌, Bool, List, [], ◌∷◌, ◌++◌, false, if◌then◌else◌, length, nat_eq, not, true, ℕ}

-- Which files a run removes (POSIX c99, "Consequences of Errors"; this project's profile).

-- a removal that job k makes itself
abbrev pub own_at : ℕ → Place → List Place
own_at k (place.OnFailure j i) = if nat_eq j k then place.OnFailure j i ∷ [] else []
own_at k p = []

-- the failure file of job k that a step removes, if any
abbrev pub own_removal : ℕ → Step → List Place
own_removal k (step.Remove p) = own_at k p
own_removal k s = []

-- the failure files of job k that events remove
abbrev pub own_removals_in : ℕ → List RunEvent → List Place
own_removals_in k events = flat_map (λ e. own_removal k e.step) events

-- the place of a file that is removed at the end: of a temporary, or of a marked file
abbrev pub end_at : Place → List Place
end_at (place.Temp k i) = place.Temp k i ∷ []
end_at (place.Marked k i) = place.Marked k i ∷ []
end_at p = []

-- the place that a step removes, if that is a temporary or a marked file
abbrev pub end_removal : Step → List Place
end_removal (step.Remove p) = end_at p
end_removal s = []

-- the temporaries and marked files that events remove
abbrev pub end_removals_in : List RunEvent → List Place
end_removals_in events = flat_map (λ e. end_removal e.step) events

-- the places of a job's failure files
abbrev pub failure_places : ℕ → ℕ → List (List ℕ) → List Place
failure_places k i [] = []
failure_places k i (f ∷ fs) = place.OnFailure k i ∷ failure_places k (i + 1) fs

-- all failure files of a job, if it failed after it had started a command
abbrev pub removed_by_job : Plan → ℕ → List RunEvent → List Place
removed_by_job plan k events =
    if job_failed k events && not (none (started_in k events)) then failure_places k 0 (job_at plan k).on_failure else []

-- whether a step is a removal or a report
abbrev pub is_removing : Step → Bool
is_removing (step.Remove p) = true
is_removing (step.Report n) = true
is_removing s = false

-- Each job removes its failure files by the rule. At the very end the claimed temporaries and the marked files are removed, each path once,
-- in the order of the plan, and nothing else is done. `before` and `after` are the two `parts` of the events: no removal at the end is in
-- the first (`none_before`), and the second has only these (`at_end`, `alone`).
pub record RemovesByRule (plan : Plan) (events : List RunEvent) : Type 0 where
  pub own : (k : ℕ) → k ≤ length plan.jobs → own_removals_in k events ≡ removed_by_job plan k events
  pub before : List RunEvent
  pub after : List RunEvent
  pub parts : events ≡ before ++ after
  pub none_before : end_removals_in before ≡ []
  pub at_end : end_removals_in after ≡ due plan before
  pub alone : list_any (λ e. not (is_removing e.step)) after ≡ false
