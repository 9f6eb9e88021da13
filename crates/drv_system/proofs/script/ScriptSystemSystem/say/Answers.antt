use Rattle.drv_system.proofs.Holding.{numbered_beside}
use Rattle.std.proofs.Common.{refl}
use Rattle.drv_system.proofs.script.ScriptSystemSystem.say.Goals as goal

-- a question or a message starts no child, so the numbers of children stay below the count
pub invariant_of-self-2 : goal.invariant_of-self-2
invariant_of-self-2 c = numbered_beside _ c.self.invariant c.in_ok-note_said.ensures.event refl refl
