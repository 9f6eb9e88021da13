use Rattle.drv_system.proofs.Holding.{holds_beside}
use Rattle.std.proofs.Common.{refl}
use Rattle.drv_system.proofs.host.HostSystemSystem.read_file.Goals as goal

-- the new event is no step of a run, so the numbers of children and the pending pipe stay as they are
pub invariant_of-self-2 : goal.invariant_of-self-2
invariant_of-self-2 c = holds_beside _ c.self.invariant c.in_ok-note_read.ensures.event refl refl refl
