use Rattle.drv_compile.proofs.DriverCalls.{undriven_answer, undriven_denied, worker_in_place, worker_unchanged}
use Rattle.drv_compile.proofs.Noting.{none_noted, noted_as}
use Rattle.drv_compile.proofs.driving.worker_after.Goals as goal
use Rattle.drv_system.proofs.AskedCalls.{extends_before}

-- Names: `none_noted`: nothing was noted. `undriven_answer`: a line whose spec files give no answer is refused for that. `undriven_denied`:
-- a line for which they give what is refused is refused too.

pub returns-in_err-call-in-Ok-clause-drives : goal.returns-in_err-call-in-Ok-clause-drives
returns-in_err-call-in-Ok-clause-drives g c =
    none_noted _ _ (λ F e. undriven_denied F c.args.line.now c.args.first c.in-Ok.answer _ c.from_residual.result
    c.from_residual.ensures.1 (c.in-Ok.ensures.answers F e) c.in_err-call-in-Ok.ensures)

-- the spec files ask for another call: the line is carried out as that one is
pub returns-in-Some-clause-drives : goal.returns-in-Some-clause-drives
returns-in-Some-clause-drives g c =
    noted_as _ _ _ _ (λ events calls F e. worker_in_place F c.args.line.now c.args.first c.in-Ok.answer _ c.in-Some.call events
    c.driver_of_call.result (c.in-Ok.ensures.answers F (extends_before c.driver_of_call.ensures.asks e))
    c.in_ok-call-in-Ok.ensures c.in-Some.is (calls F e)) c.driver_of_call.ensures.calls

pub returns-in-None-clause-drives : goal.returns-in-None-clause-drives
returns-in-None-clause-drives g c =
    none_noted _ _ (λ F e. worker_unchanged F c.args.line.now c.args.first c.in-Ok.answer _
    (c.in-Ok.ensures.answers F e) c.in_ok-call-in-Ok.ensures c.in-None.is)

pub returns-in-Err-clause-drives : goal.returns-in-Err-clause-drives
returns-in-Err-clause-drives g c =
    none_noted _ _ (λ F e. undriven_answer F c.args.line.now c.args.first c.in-Err.stop c.undone.result c.undone.ensures
    (c.in-Err.ensures.answers F e))
