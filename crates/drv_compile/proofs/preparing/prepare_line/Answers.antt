use Rattle.drv_compile.proofs.Noting.{memory_noted_over, noted_as}
use Rattle.drv_compile.proofs.LinesPrepared.{prepared_by_driver, undriven_plan, unworded_plan}
use Rattle.drv_compile.proofs.preparing.prepare_line.Goals as goal
use Rattle.drv_system.proofs.AskedCalls.{asked_further, extends_before}

-- Names: `noted_as`: what was noted, said in other words. `prepared_by_driver`: `prepare_line` lets the driver carry the line out.
-- `unworded_plan`: `prepare_line` refuses a line that nobody carries out.

pub returns-in_err-driven-clause-plans : goal.returns-in_err-driven-clause-plans
returns-in_err-driven-clause-plans g c =
    noted_as _ _ _ _ (λ events tells F e. undriven_plan F c.args.line.now c.args.call events _ c.from_residual.result
    c.from_residual.ensures.1 (tells F e)) c.in_err-driven.ensures.drives

pub returns-in-Driver-clause-asks : goal.returns-in-Driver-clause-asks
returns-in-Driver-clause-asks g c = asked_further c.worker_of.ensures.asks c.prepare_plan.ensures.asks

-- a driver carries the line out: the plan is the one of its line
pub returns-in-Driver-clause-plans : goal.returns-in-Driver-clause-plans
returns-in-Driver-clause-plans g c =
    noted_as _ _ _ _ (λ events works F e. prepared_by_driver F c.args.line.now c.args.call events _ c.in-Driver.driven
    c.prepare_plan.result (works F (extends_before c.prepare_plan.ensures.asks e)) c.in-Driver.is
    (c.prepare_plan.ensures.plans F e)) c.in_ok-driven.ensures.drives

pub returns-in_err-text-in-Nobody-clause-plans : goal.returns-in_err-text-in-Nobody-clause-plans
returns-in_err-text-in-Nobody-clause-plans g c =
    memory_noted_over _ _ _ c.from_residual-in_err-text-in-Nobody.result _ _ _ c.in_ok-driven.ensures.drives
    c.from_residual-in_err-text-in-Nobody.ensures.1

-- nobody carries it out: the line is refused
pub returns-in_ok-text-in-Nobody-clause-plans : goal.returns-in_ok-text-in-Nobody-clause-plans
returns-in_ok-text-in-Nobody-clause-plans g c =
    noted_as _ _ _ _ (λ events works F e. unworded_plan F c.args.line.now c.args.call events _
    c.in-Nobody.options _ _ _ c.in_ok-text-in-Nobody.text (works F e) c.in-Nobody.is c.as_bytes.ensures
    c.as_bytes-name.ensures c.as_bytes-specs.ensures c.in_ok-text-in-Nobody.ensures) c.in_ok-driven.ensures.drives
