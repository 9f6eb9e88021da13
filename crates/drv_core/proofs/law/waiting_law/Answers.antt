use Rattle.drv_core.proofs.Waiting.{all_waited}
use Rattle.drv_core.proofs.law.waiting_law.Goals as goal

-- each story waits for its children
pub returns : goal.returns
returns c = all_waited
