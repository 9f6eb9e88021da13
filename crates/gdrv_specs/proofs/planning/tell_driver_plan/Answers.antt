use Rattle.gdrv_specs.proofs.Told.{tells_after, tells_before}
use Rattle.gdrv_specs.proofs.planning.tell_driver_plan.Goals as goal
use Rattle.gdrv_specs.specs.Plans.{TellsOf}

-- Names: `tells_after`: a work whose text was written. `tells_before`: what is printed before a work.

pub returns-in-Ok : goal.returns-in-Ok
returns-in-Ok g c =
    tells_after (TellsOf c.args.form) c.args.line c.args.seed c.in-Ok.work c.tell_work.result c.new.ensures c.work_of_call.ensures.asks
    c.in-Ok.ensures.comes
    c.tell_work.ensures

pub returns : goal.returns
returns g c =
    tells_before (TellsOf c.args.form) c.args.line c.args.seed c.in-Err.ending c.new.ensures c.work_of_call.ensures.asks
    c.in-Err.ensures.comes
