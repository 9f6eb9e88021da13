use Rattle.drv_plan.proofs.Told.{is_plan_of}
use Rattle.drv_plan.proofs.laws.plan_law.Goals as goal

pub returns : goal.returns
returns c = is_plan_of
