use Rattle.drv_run.proofs.Endings.{drove_before, drove_with_work}
use Rattle.drv_run.proofs.driving.drive.Goals as goal

-- Names: `drove_before`: a call that ended before its work was done has an ending of the contract.

-- a call that is refused, or lacks memory before its work
pub returns-clause-drove : goal.returns-clause-drove
returns-clause-drove g c =
    drove_before c.args.args c.args.seed c.in-Err.ending c.new-facts.ensures c.work_of_call.ensures.asks c.in-Err.ensures.comes

-- a call whose work is done
pub returns-in-Ok-clause-drove : goal.returns-in-Ok-clause-drove
returns-in-Ok-clause-drove g c =
    drove_with_work c.args.args c.args.seed c.in-Ok.work c.ending_of.result c.new-facts.ensures c.work_of_call.ensures.asks
    c.in-Ok.ensures.comes c.ending_of.ensures.ends
