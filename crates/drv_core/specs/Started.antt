use Rattle.drv_core.specs.Events.{failed, job_of}
use Rattle.drv_core.specs.Links.{is_work_of, job_failed, link_run}
use Rattle.drv_core.specs.Windowed.{source_at}
use Rattle.drv_words.specs.declared.answers.Answer.{Answer}
use Rattle.drv_words.specs.declared.answers.Answer.TheVariants as answer
use Rattle.drv_words.specs.declared.answers.StartAnswer.TheVariants as start
use Rattle.drv_words.specs.declared.plan.Command.{Command}
use Rattle.drv_words.specs.declared.plan.Plan.{Plan}
use Rattle.drv_words.specs.declared.steps.Place.{Place}
use Rattle.drv_words.specs.declared.steps.Place.TheVariants as place
use Rattle.drv_words.specs.declared.steps.RunEvent.{RunEvent}
use Rattle.drv_words.specs.declared.steps.Step.{Step}
use Rattle.drv_words.specs.declared.steps.Step.TheVariants as step
use Rattle.std.specs.List.{flat_map}
use Rattle.std.specs.Prelude.{◌≡◌, ◌+◌, ◌-◌, ◌<◌, ◌&&◌, List, [], ◌∷◌, ◌++◌, false, if◌then◌else◌, length, nat_eq, suc, zero, ℕ}

-- Which commands of a plan are started (POSIX c99, "Consequences of Errors"; this project's profile).

-- members of a group, from number i on: one and `more` others
abbrev pub members : ℕ → ℕ → ℕ → ℕ → List Place
members k g i zero = place.Command k g i ∷ []
members k g i (suc more) = place.Command k g i ∷ members k g (i + 1) more

-- the planned list of job k: its commands, group after group, from group g on
abbrev pub planned : ℕ → ℕ → List (List Command) → List Place
planned k g [] = []
planned k g (c ∷ groups) = members k g 0 (length c - 1) ++ planned k (g + 1) groups

-- what happens to a job: a command of it is started, or a claim, start or wait of it fails
pub data Act : Type 0 where
  Starts : (p : Place) → Act
  Fails : Act

-- the act of job k that a step and its answer are, if any
abbrev pub act_of : ℕ → Step → Answer → List Act
act_of k (step.Start p from_pipe to_pipe) (answer.Start (start.Started id)) = if nat_eq (job_of p) k then Starts p ∷ [] else []
act_of k s x = if is_work_of k s && failed x then Fails ∷ [] else []

-- the acts of job k in events
abbrev pub acts_in : ℕ → List RunEvent → List Act
acts_in k events = flat_map (λ e. act_of k e.step e.answer) events

-- the commands that acts start
abbrev pub starts_of : List Act → List Place
starts_of [] = []
starts_of (Starts p ∷ acts) = p ∷ starts_of acts
starts_of (Fails ∷ acts) = starts_of acts

-- the started commands of job k, in the order of the events
abbrev pub started_in : ℕ → List RunEvent → List Place
started_in k events = starts_of (acts_in k events)

-- The commands of the list are started one after another, until something fails. So each is started exactly if no failure of the job comes
-- before it.
pub data InOrder : List Place → List Act → Type 0 where
  all_started : InOrder [] []
  starts : {p : Place} {ps : List Place} {acts : List Act} → InOrder ps acts → InOrder (p ∷ ps) (Starts p ∷ acts)
  fails : {ps : List Place} {acts : List Act} → starts_of acts ≡ [] → InOrder ps (Fails ∷ acts)

-- So the started commands of job k are the first of its list, and all of it if the job did not fail.
pub record StartsFirst (k : ℕ) (list : List Place) (events : List RunEvent) : Type 0 where
  pub in_order : InOrder list (acts_in k events)
  pub rest : List Place
  pub first : list ≡ started_in k events ++ rest
  pub every : job_failed k events ≡ false → started_in k events ≡ list

-- the same of each source, and of the link if it is run
pub record StartsInOrder (plan : Plan) (events : List RunEvent) : Type 0 where
  pub sources : (k : ℕ) → k < length plan.jobs → StartsFirst k (planned k 0 (source_at plan k).groups) events
  pub link : StartsFirst (length plan.jobs) (planned (length plan.jobs) 0 (link_run plan events).groups) events
