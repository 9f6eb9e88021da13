use Rattle.drv_syntax.proofs.Refusals as refusals
use Rattle.drv_syntax.proofs.laws.cut_front.Goals as goal

-- a front without a tree is cut short
pub returns : goal.returns
returns c = refusals.cut_front
