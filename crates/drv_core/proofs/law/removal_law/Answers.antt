use Rattle.drv_core.proofs.RemovalRule.{removes_by_rule}
use Rattle.drv_core.proofs.law.removal_law.Goals as goal

-- each story removes by the rule
pub returns : goal.returns
returns c = removes_by_rule
