use Rattle.drv_compile.proofs.Worded.{driver_told}
use Rattle.drv_compile.proofs.preparing.work_or_stop.Goals as goal

-- Names: `F`: what is known of the outside. `e`: that `F` extends the facts of this call. `driver_told`: `work_or_stop` says the refusal of
-- a line of the driver.

pub returns-in-Err-clause-works : goal.returns-in-Err-clause-works
returns-in-Err-clause-works g c F e =
    driver_told F c.args.name.now c.args.line.now c.args.seed c.in-Err.ending c.stop_after.result
    (c.in-Err.ensures.comes F e) c.stop_after.ensures
