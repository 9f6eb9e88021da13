use Rattle.drv_core.proofs.StartedFirst.{all_in_order}
use Rattle.drv_core.proofs.law.started_first.Goals as goal

-- each story starts in order
pub returns : goal.returns
returns c = all_in_order
