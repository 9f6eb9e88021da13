use Rattle.drv_compile.proofs.Noting.{both_noted, memory_noted_over, stop_noted}
use Rattle.drv_compile.proofs.Stamped.{comes_warned}
use Rattle.drv_compile.proofs.preparing.prepare.Goals as goal

pub returns-in_err-prepared-clause-comes : goal.returns-in_err-prepared-clause-comes
returns-in_err-prepared-clause-comes g c =
    stop_noted _ _ _ c.from_residual.result _ _ _ c.from_residual.ensures.1 c.in_err-prepared.ensures.plans

pub returns-in_err-stale-clause-comes : goal.returns-in_err-stale-clause-comes
returns-in_err-stale-clause-comes g c =
    memory_noted_over _ _ _ c.from_residual-in_err-stale.result _ _ _
    (both_noted _ _ _ _ _ c.in_ok-prepared.ensures.plans c.in_err-stale.ensures) c.from_residual-in_err-stale.ensures.1

pub returns-in_err-made-clause-comes : goal.returns-in_err-made-clause-comes
returns-in_err-made-clause-comes g c =
    memory_noted_over _ _ _ c.from_residual-in_err-made.result _ _ _
    (both_noted _ _ _ _ _ c.in_ok-prepared.ensures.plans c.in_ok-stale.ensures) c.from_residual-in_err-made.ensures.1

-- what the line asked for, and then what the host said of the stamps
pub returns-clause-comes : goal.returns-clause-comes
returns-clause-comes g c =
    comes_warned c.args.request.now.calling.now c.args.request.now.own.now c.args.request.now.args.now c.args.request.now.seed
    c.in_ok-prepared.prepared c.in_ok-made.made c.as_bytes.result.now c.in_ok-stale.stale _ _ _ _ c.in_ok-made.ensures
    c.as_bytes.ensures c.in_ok-prepared.ensures.plans c.in_ok-stale.ensures
