use Rattle.drv_syntax.proofs.MeantWhole as meant
use Rattle.drv_syntax.proofs.laws.unrefused_is_front.Goals as goal

-- a text that is not refused is a front
pub returns : goal.returns
returns c = meant.unrefused_is_front
