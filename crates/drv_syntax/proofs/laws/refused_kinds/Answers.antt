use Rattle.drv_syntax.proofs.MeantWhole as meant
use Rattle.drv_syntax.proofs.laws.refused_kinds.Goals as goal

-- each refusal of Descent is one by the grammar
pub returns : goal.returns
returns c = meant.refused_kinds
