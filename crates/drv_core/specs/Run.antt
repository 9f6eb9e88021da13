use Rattle.drv_core.specs.declared.action.Action.{Action}
use Rattle.drv_core.specs.declared.action.Action.TheVariants as action
use Rattle.drv_words.specs.declared.plan.Plan.{Plan}
use Rattle.drv_words.specs.declared.steps.RunEvent.{RunEvent}
use Rattle.drv_words.specs.declared.steps.Step.{Step}
use Rattle.std.specs.Prelude.{⊤, Bool, List, None, Option, Some, ℕ}

-- A run of a plan, as its callers see it.

-- pass_codes: whether the status is the greatest code; window: how many sources may be under way at once; events: the events so far;
-- action: the next step, or the status
pub record Run : Type 0 where
  pub plan : Plan
  pub pass_codes : Bool
  pub window : ℕ
  pub events : List RunEvent
  pub action : Action

-- what holds of the next step, and of the status
abbrev pub IfMake : Action → (Step → Type 0) → Type 0
IfMake (action.Make s) P = P s
IfMake (action.Done n) P = ⊤

-- what holds of the status
abbrev pub IfDone : Action → (ℕ → Type 0) → Type 0
IfDone (action.Make s) P = ⊤
IfDone (action.Done n) P = P n

-- the next step, or else the status
abbrev pub action_of : Option Step → ℕ → Action
action_of None status = action.Done status
action_of (Some s) status = action.Make s

-- the next step of an action, if it has one
abbrev pub step_in : Action → Option Step
step_in (action.Make s) = Some s
step_in (action.Done n) = None
