use Rattle.drv_system.specs.declared.event.Event.{Event}
use Rattle.std.specs.Prelude.{List, ℕ}

-- What contracts know of a process's system: its journal, and its room for more events and children. Contracts don't define its answers.
pub record Host : Type 0 where
  pub journal : List Event
  pub spare_events : ℕ
  pub spare_children : ℕ
