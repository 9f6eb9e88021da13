use Rattle.drv_run.proofs.Refusals.{does_nothing}
use Rattle.drv_run.proofs.laws.refused_does_nothing.Goals as goal

pub returns : goal.returns
returns c = does_nothing
