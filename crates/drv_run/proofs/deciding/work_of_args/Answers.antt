use Rattle.drv_run.proofs.LinesRead.{line_asks}
use Rattle.drv_run.proofs.Steps.{ended_as}
use Rattle.drv_run.proofs.deciding.work_of_args.Goals as goal
use Rattle.drv_system.proofs.Asking.{asks_extends}

-- Names: `F`: what is known of the outside. `e`: that `F` extends the facts of this call. `line_asks`: what a line asks for its arguments
-- ask for. `ended_as`: a call that ends without work.

pub returns-in_err-line-clause-comes : goal.returns-in_err-line-clause-comes
returns-in_err-line-clause-comes g c F e =
    ended_as F c.args.args c.args.seed c.in_err-line.field-0.0 c.from_residual.result c.from_residual.ensures.1
    (c.in_err-line.ensures.comes F e c.args.seed)

pub returns-clause-comes : goal.returns-clause-comes
returns-clause-comes g c =
    line_asks c.line_of_args.new.outside.facts.now c.work_of_line.new.outside.facts.now c.args.args c.args.seed c.in_ok-line.line
    c.work_of_line.result (asks_extends c.work_of_line.ensures.asks.asks) c.in_ok-line.ensures.comes c.work_of_line.ensures.comes
