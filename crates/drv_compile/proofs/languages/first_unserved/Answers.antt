use Rattle.drv_compile.proofs.Served.{served_all, served_more, served_not}
use Rattle.drv_compile.proofs.languages.first_unserved.Goals as goal
use Rattle.std.proofs.Common.{◌∙◌, arith, sym}

pub loop-input-preserved : goal.loop-input-preserved
loop-input-preserved c =
    served_more _ c.args.set.now c.args.inputs.now c.loop-input.input-index c.input-item.result c.in_ok-found.found
    c.loop-input-test.true c.input-item.is c.in_ok-found.ensures (sym c.is_some.ensures ∙ c.if-is_some.false) c.loop-input.invariant

pub returns-then-is_some : goal.returns-then-is_some
returns-then-is_some c =
    served_not _ c.args.set.now c.args.inputs.now c.loop-input.input-index c.input-item.result c.in_ok-found.found
    c.loop-input-test.true c.input-item.is c.in_ok-found.ensures (sym c.is_some.ensures ∙ c.if-is_some.true) c.loop-input.invariant

pub returns : goal.returns
returns c = served_all c.args.set.now c.args.inputs.now c.loop-input.input-index (omega (arith, c.loop-input-test.false))
    c.loop-input.invariant
