use Rattle.drv_core.proofs.Bounds.{bounded}
use Rattle.drv_core.proofs.law.bound_law.Goals as goal

-- each block uses up as many as it has
pub returns : goal.returns
returns c = bounded
