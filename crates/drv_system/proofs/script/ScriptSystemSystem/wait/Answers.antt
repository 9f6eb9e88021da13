use Rattle.drv_system.proofs.Holding.{numbered_step}
use Rattle.std.proofs.Common.{refl}
use Rattle.drv_system.proofs.script.ScriptSystemSystem.wait.Goals as goal

-- the step starts no child, so the numbers of children stay below the count
pub invariant_of-self : goal.invariant_of-self
invariant_of-self c = numbered_step _ _ c.self.invariant c.push_reserved.ensures.items refl tt
