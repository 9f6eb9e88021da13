use Rattle.drv_system.specs.Running.{run_of}
use Rattle.drv_system.specs.declared.event.Event.{Event}
use Rattle.drv_words.specs.Stepping.{pipe_pending}
use Rattle.drv_words.specs.declared.answers.Answer.{Answer}
use Rattle.drv_words.specs.declared.answers.Answer.TheVariants as answer
use Rattle.drv_words.specs.declared.answers.StartAnswer.TheVariants as start
use Rattle.drv_words.specs.declared.steps.RunEvent.{RunEvent}
use Rattle.std.specs.Prelude.{◌≡◌, ◌<◌, ◌≤◌, Bool, List, [], ◌∷◌, length, ℕ, ⊤}

-- What a system keeps beside its journal. Only the invariants of the two systems cite it, not the contract of a call.

-- the number of a started child is below n
abbrev pub IsBelow : ℕ → Answer → Type 0
IsBelow n (answer.Start (start.Started id)) = id < n
IsBelow n a = ⊤

-- all children of these events have numbers below n
abbrev pub AreBelow : ℕ → List RunEvent → Type 0
AreBelow n [] = ⊤
AreBelow n (e ∷ events) = IsBelow n e.answer × AreBelow n events

-- the children that the events started have numbers below n, and there are at most as many as events
pub record Numbered (n : ℕ) (events : List Event) : Type 0 where
  pub below : AreBelow n (run_of events)
  pub few : n ≤ length events

-- and the system keeps the end of a pipe exactly while one is pending
pub record Holds (n : ℕ) (pending : Bool) (events : List Event) : Type 0 where
  pub numbered : Numbered n events
  pub pipe : pending ≡ pipe_pending (run_of events)
