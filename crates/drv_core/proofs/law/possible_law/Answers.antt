use Rattle.drv_core.proofs.Possible.{all_possible}
use Rattle.drv_core.proofs.law.possible_law.Goals as goal

-- each step can be made
pub returns : goal.returns
returns c = all_possible
