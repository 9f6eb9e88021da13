use Rattle.drv_compile.proofs.DriverCalls.{undriven_line, worker_drives, worker_unworded}
use Rattle.drv_compile.proofs.Noting.{noted_as}
use Rattle.drv_compile.proofs.driving.worker_of.Goals as goal
use Rattle.drv_system.proofs.AskedCalls.{extends_before}

-- Names: `noted_as`: what was noted, said in other words. `undriven_line`: `worker_of` refuses a line that no driver takes.
-- `worker_unworded`: `worker_of` says that nobody carries out a line of whose machine no row has the words.

pub returns-in_err-driven-clause-drives : goal.returns-in_err-driven-clause-drives
returns-in_err-driven-clause-drives g c =
    noted_as _ _ _ _ (λ events tells F e. undriven_line F c.args.line.now c.args.call events _ c.from_residual.result
    c.from_residual.ensures.1 (tells F e)) c.in_err-driven.ensures.drives

-- a driver takes the line: it is called with the libraries of the link too
pub returns-in_ok-passed-in-Driver-clause-drives : goal.returns-in_ok-passed-in-Driver-clause-drives
returns-in_ok-passed-in-Driver-clause-drives g c =
    noted_as _ _ _ _ (λ events chosen F e. worker_drives F c.args.line.now c.args.call events _ c.in-Driver.driven
    c.in_ok-passed-in-Driver.passed (chosen F (extends_before c.with_libraries.ensures.asks e)) c.in-Driver.is
    (c.in_ok-passed-in-Driver.ensures.passes F e)) c.in_ok-driven.ensures.drives

pub returns-in-Nobody-clause-drives : goal.returns-in-Nobody-clause-drives
returns-in-Nobody-clause-drives g c =
    noted_as _ _ _ _ (λ events chosen F e. worker_unworded F c.args.line.now c.args.call events _ c.in-Nobody.options
    (chosen F e) c.in-Nobody.is) c.in_ok-driven.ensures.drives
