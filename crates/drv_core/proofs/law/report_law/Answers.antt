use Rattle.drv_core.proofs.Reports.{all_reported}
use Rattle.drv_core.proofs.law.report_law.Goals as goal

-- each block is reported
pub returns : goal.returns
returns c = all_reported
