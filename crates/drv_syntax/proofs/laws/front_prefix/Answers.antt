use Rattle.drv_syntax.proofs.Refusals as refusals
use Rattle.drv_syntax.proofs.laws.front_prefix.Goals as goal

-- what a front begins with is a front
pub returns : goal.returns
returns c = refusals.front_prefix
