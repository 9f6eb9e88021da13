use Rattle.drv_compile.proofs.FirstRead.{first_it, first_more, first_none, short_noted}
use Rattle.drv_compile.proofs.overwriting.first_at.Goals as goal
use Rattle.drv_compile.specs.Overwriting.{IsAt}
use Rattle.std.proofs.Common.{◌∙◌, arith, sym}

pub returns-in_err-found : goal.returns-in_err-found
returns-in_err-found g c =
    short_noted _ _ _ _ _ c.from_residual.result _ _ c.loop-file.invariant c.in_err-found.ensures c.from_residual.ensures.1

pub returns-then-is_some : goal.returns-then-is_some
returns-then-is_some g c =
    first_it (IsAt c.args.path.now) c.args.files.now c.loop-file.file-index c.file-item.result c.in_ok-found.found _ _ _
    c.loop-file-test.true c.file-item.is (sym c.is_some.ensures ∙ c.if-is_some.true) c.in_ok-found.ensures c.loop-file.invariant

pub loop-file-preserved : goal.loop-file-preserved
loop-file-preserved g c =
    first_more (IsAt c.args.path.now) c.args.files.now c.loop-file.file-index c.file-item.result c.in_ok-found.found _ _ _
    c.loop-file-test.true c.file-item.is (sym c.is_some.ensures ∙ c.if-is_some.false) c.in_ok-found.ensures c.loop-file.invariant

pub returns : goal.returns
returns g c = first_none (IsAt c.args.path.now) c.args.files.now c.loop-file.file-index _ _ (omega (arith, c.loop-file-test.false)) c.loop-file.invariant
