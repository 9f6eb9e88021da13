use Rattle.drv_system.proofs.Holding.{holds_step}
use Rattle.std.proofs.Common.{refl}
use Rattle.drv_system.proofs.host.HostSystemSystem.wait.Goals as goal

-- the numbers of children stay below the count, and the end of a pipe is kept exactly while one is pending
pub invariant_of-self : goal.invariant_of-self
invariant_of-self c = holds_step _ _ c.self.invariant c.push_reserved.ensures.items c.wait_for-status.ensures.len tt refl
