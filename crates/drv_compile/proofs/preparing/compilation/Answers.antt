use Rattle.drv_compile.proofs.Noting.{none_noted}
use Rattle.drv_compile.proofs.LinesPrepared.{free_as, objected_as, overwriting_fails, performs_noted}
use Rattle.drv_compile.proofs.Worded.{memory_stops}
use Rattle.drv_compile.proofs.preparing.compilation.Goals as goal
use Rattle.drv_system.proofs.AskedCalls.{extends_before}

pub returns-in_err-text-clause-performs : goal.returns-in_err-text-clause-performs
returns-in_err-text-clause-performs g c = none_noted _ _ (λ F e. memory_stops c.from_residual.result _ _ c.from_residual.ensures.1)

pub returns-then-not-is_empty-clause-performs : goal.returns-then-not-is_empty-clause-performs
returns-then-not-is_empty-clause-performs g c =
    none_noted _ _ (λ F e.
    objected_as F c.args.line.now c.args.call _ c.in_ok-text.text _ c.is_empty.result
    c.as_bytes-name.ensures c.as_slice.ensures
    (c.in_ok-text.ensures.text F e) c.is_empty.ensures c.if-not-is_empty.true)

-- Nothing else speaks against the line (`free_as`), so its refusal is the one about its output.
pub returns-in_err-refuse_overwriting-clause-performs : goal.returns-in_err-refuse_overwriting-clause-performs
returns-in_err-refuse_overwriting-clause-performs g c =
    overwriting_fails c.args.line.now c.args.call _ _ _
    c.from_residual-in_err-refuse_overwriting.result _ c.from_residual-in_err-refuse_overwriting.ensures.1
    (λ F e. free_as F c.args.line.now c.args.call _ c.in_ok-text.text _ c.is_empty.result c.as_bytes-name.ensures c.as_slice.ensures
    (c.in_ok-text.ensures.text F e) c.is_empty.ensures
    c.if-not-is_empty.false)
    c.in_err-refuse_overwriting.ensures

-- nothing speaks against the line: the call does what its plan says
pub returns-clause-performs : goal.returns-clause-performs
returns-clause-performs g c =
    performs_noted c.args.line.now c.args.call _ _ _ c.prepare_line.result _
    (λ F e. free_as F c.args.line.now c.args.call _ c.in_ok-text.text _ c.is_empty.result c.as_bytes-name.ensures c.as_slice.ensures
    (c.in_ok-text.ensures.text F (extends_before c.prepare_line.ensures.asks e)) c.is_empty.ensures c.if-not-is_empty.false)
    c.in_ok-refuse_overwriting.ensures c.prepare_line.ensures.plans
