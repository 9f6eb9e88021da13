use Rattle.drv_syntax.proofs.Taken.{err_then}
use Rattle.drv_syntax.proofs.descent.leaves.hide.Goals as goal
use Rattle.drv_syntax.specs.Descent as d
use Rattle.drv_syntax.specs.Descent.{Took}
use Rattle.drv_syntax.specs.Tree.{Hide}

-- the pattern has a fault
pub returns-in_err-p : goal.returns-in_err-p
returns-in_err-p c = err_then _ _ c.args.outer _ _ (d.pattern_at c.args.at c.args.r.now.rest) (λ p rest. Took (Hide p) rest)
    c.from_residual.ensures.1 c.in_err-p.ensures
