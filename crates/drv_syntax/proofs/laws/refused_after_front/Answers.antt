use Rattle.drv_syntax.proofs.Refusals.{refused_after}
use Rattle.drv_syntax.proofs.laws.refused_after_front.Goals as goal

-- a text that follows a front with a byte that makes none is refused at that byte
pub returns : goal.returns
returns c = refused_after
