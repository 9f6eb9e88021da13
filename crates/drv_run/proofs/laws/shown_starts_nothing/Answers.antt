use Rattle.drv_run.proofs.Refusals.{makes_no_step}
use Rattle.drv_run.proofs.laws.shown_starts_nothing.Goals as goal

pub returns : goal.returns
returns c = makes_no_step
