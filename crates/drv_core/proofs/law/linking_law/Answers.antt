use Rattle.drv_core.proofs.LinkRuns.{links_where}
use Rattle.drv_core.proofs.law.linking_law.Goals as goal

-- the link is run where no source failed
pub returns : goal.returns
returns c = links_where
