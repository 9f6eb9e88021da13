use Rattle.drv_syntax.proofs.WholeRead as whole
use Rattle.drv_syntax.proofs.laws.refusal_kinds.Goals as goal

-- each refusal by the grammar is one that Descent makes
pub returns : goal.returns
returns c = whole.refusal_kinds
