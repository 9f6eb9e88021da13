use Rattle.drv_compile.proofs.FirstRead.{first_it, first_more, first_none, short_noted}
use Rattle.drv_compile.proofs.overwriting.overwrites.Goals as goal
use Rattle.drv_compile.specs.Overwriting.{IsRead}
use Rattle.std.proofs.Common.{◌∙◌, arith, sym}

pub returns-in_err-found : goal.returns-in_err-found
returns-in_err-found g c =
    short_noted _ _ _ _ _ c.from_residual.result _ _ c.loop-output.invariant c.in_err-found.ensures c.from_residual.ensures.1

pub returns-then-is_some : goal.returns-then-is_some
returns-then-is_some g c =
    first_it (IsRead c.args.files.now) c.args.outputs.now c.loop-output.output-index c.output-item.result c.in_ok-found.found _ _ _
    c.loop-output-test.true c.output-item.is (sym c.is_some.ensures ∙ c.if-is_some.true) c.in_ok-found.ensures c.loop-output.invariant

pub loop-output-preserved : goal.loop-output-preserved
loop-output-preserved g c =
    first_more (IsRead c.args.files.now) c.args.outputs.now c.loop-output.output-index c.output-item.result c.in_ok-found.found _ _ _
    c.loop-output-test.true c.output-item.is (sym c.is_some.ensures ∙ c.if-is_some.false) c.in_ok-found.ensures c.loop-output.invariant

pub returns : goal.returns
returns g c = first_none (IsRead c.args.files.now) c.args.outputs.now c.loop-output.output-index _ _ (omega (arith, c.loop-output-test.false)) c.loop-output.invariant
