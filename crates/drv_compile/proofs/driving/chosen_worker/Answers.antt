use Rattle.drv_compile.proofs.DriverCalls.{undriven_texts, worker_at_once, worker_later}
use Rattle.drv_compile.proofs.Noting.{noted_as, noted_then}
use Rattle.drv_compile.proofs.driving.chosen_worker.Goals as goal
use Rattle.drv_system.proofs.AskedCalls.{asked_further, extends_before}

-- Names: `noted_as`: what was noted, said in other words. `undriven_texts`: `chosen_worker` refuses a line whose texts are damaged.
-- `worker_at_once`: `chosen_worker` says at once that nobody carries out a line of whose machine no row has the words.

pub returns-in_err-first-clause-drives : goal.returns-in_err-first-clause-drives
returns-in_err-first-clause-drives g c =
    noted_as _ _ _ _ (λ events tells F e. undriven_texts F c.args.line.now c.args.call events _ c.from_residual.result
    c.from_residual.ensures.1 (tells F e)) c.in_err-first.ensures.calls

pub returns-in-Driver-clause-asks : goal.returns-in-Driver-clause-asks
returns-in-Driver-clause-asks g c = asked_further c.driver_of_call.ensures.asks c.worker_after.ensures.asks

-- a driver takes the line: what the spec files give may ask for another call
pub returns-in-Driver-clause-drives : goal.returns-in-Driver-clause-drives
returns-in-Driver-clause-drives g c =
    noted_then _ _ _ _ _ _ (λ events more called gives F e. worker_later F c.args.line.now c.args.call events more _ c.in-Driver.first
    c.worker_after.result (called F (extends_before c.worker_after.ensures.asks e)) c.in-Driver.is (gives F e))
    c.in_ok-first.ensures.calls c.worker_after.ensures.drives

pub returns-in-Nobody-clause-drives : goal.returns-in-Nobody-clause-drives
returns-in-Nobody-clause-drives g c =
    noted_as _ _ _ _ (λ events called F e. worker_at_once F c.args.line.now c.args.call events _ c.in-Nobody.options
    (called F e) c.in-Nobody.is) c.in_ok-first.ensures.calls
