use Rattle.drv_run.proofs.laws.same_plan.Goals as goal
use Rattle.std.proofs.Common.{refl}

pub returns : goal.returns
returns c = λ F line set seed dry verbose pass_codes jobs. refl
