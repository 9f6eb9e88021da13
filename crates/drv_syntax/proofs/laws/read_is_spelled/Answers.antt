use Rattle.drv_syntax.proofs.MeantWhole as meant
use Rattle.drv_syntax.proofs.laws.read_is_spelled.Goals as goal

-- a tree that a text gives is one by the grammar
pub returns : goal.returns
returns c = meant.read_is_spelled
