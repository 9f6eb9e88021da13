use Rattle.drv_system.specs.declared.outside.Outside.{Outside}
use Rattle.drv_system.specs.Asking.{Asks}
use Rattle.drv_system.specs.declared.event.Event.{Event}
use Rattle.std.specs.Prelude.{◌≡◌, List}

-- A call that only asked, for clauses of the code alone (this project's profile).

-- the same system, with the same table
pub record Asked {S : Type 0} (events : S → List Event) (before after : Outside S) : Type 0 where
  pub asks : Asks (events before.sys.now) (events after.sys.now) before.facts.now after.facts.now
  pub same_sys : after.sys.ghost_name ≡ before.sys.ghost_name
  pub same_facts : after.facts.ghost_name ≡ before.facts.ghost_name
