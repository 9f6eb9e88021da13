use Rattle.drv_syntax.proofs.WholeRead as whole
use Rattle.drv_syntax.proofs.laws.spelled_is_read.Goals as goal

-- a tree by the grammar is what the text gives
pub returns : goal.returns
returns c = whole.spelled_is_read
