use Rattle.drv_cc.proofs.SaidLaw.{is_said}
use Rattle.drv_cc.proofs.laws.line_is_said.Goals as goal

pub returns : goal.returns
returns c = is_said
