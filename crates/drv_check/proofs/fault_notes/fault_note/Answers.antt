use Rattle.drv_check.proofs.fault_notes.fault_note.Goals as goal
use Rattle.drv_system.proofs.Asking.{asks_then}
use Rattle.std.proofs.Common.{rules}

pub returns : goal.returns
returns g c = let asks = asks_then c.new.ensures.asks c.note_along.ensures.asks in search rules
