use Rattle.drv_core.specs.Needed.{needed}
use Rattle.drv_core.specs.Codes.{status_of}
use Rattle.drv_core.specs.Windowed.{Windowed}
use Rattle.drv_system.specs.declared.event.Event.TheVariants.{Run}
use Rattle.drv_system.specs.declared.event.Event.{Event}
use Rattle.drv_words.specs.declared.plan.Plan.{Plan}
use Rattle.drv_words.specs.declared.steps.RunEvent.{RunEvent}
use Rattle.std.specs.Prelude.{◌≡◌, ◌≤◌, Bool, List, ◌++◌, length, map, ℕ}

-- What it is that a plan was carried out (POSIX c99, "Exit Status"; GCC manual, "Overall Options", -pass-exit-codes).

-- The events of a whole run follow the journal, with at most N sources under way, and the status is that of their codes. There are never
-- more of them than the plan needs at most.
pub record Executed (plan : Plan) (pass_codes : Bool) (N : ℕ) (journal journal' : List Event) (status : ℕ) : Type 0 where
  pub events : List RunEvent
  pub journal_grows : journal' ≡ journal ++ map Run events
  pub windowed : Windowed plan N events
  pub few : length events ≤ needed plan
  pub status_is : status ≡ status_of pass_codes events
