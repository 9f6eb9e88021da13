use Rattle.drv_syntax.proofs.WholeRead.{only_tree}
use Rattle.drv_syntax.proofs.laws.one_tree.Goals as goal

-- two trees of a text are one
pub returns : goal.returns
returns c = only_tree
