use Rattle.drv_system.proofs.Holding.{holds_beside, holds_same}
use Rattle.std.proofs.Common.{refl}
use Rattle.drv_system.proofs.host.HostSystemSystem.put.Goals as goal

-- the new event is no step of a run, so the numbers of children and the pending pipe stay as they are
pub invariant_of-self-2 : goal.invariant_of-self-2
invariant_of-self-2 c = holds_beside _ (holds_same c.self.invariant c.reserve.ensures.items refl refl)
    c.push_reserved.ensures.items refl refl refl
