use Rattle.drv_compile.proofs.Told.{told_all, told_more}
use Rattle.drv_compile.proofs.telling.lines_told.Goals as goal
use Rattle.std.proofs.Common.{arith}

-- Names: `told_all`: `lines_told` has the lines of all refusals at the end. `told_more`: `lines_told` adds the line of one refusal more.

-- With this line the text has the lines of the refusals so far.
pub loop-refusal-preserved : goal.loop-refusal-preserved
loop-refusal-preserved c =
    told_more c.args.name.now c.args.known.now c.args.refusals.now c.loop-refusal.refusal-index c.refusal-item.result c.loop-refusal.text
    c.add_told.new.text
    c.loop-refusal-test.true c.refusal-item.is c.in_ok-add_told.ensures c.loop-refusal.invariant

pub returns : goal.returns
returns c =
    told_all c.args.name.now c.args.known.now c.args.refusals.now c.loop-refusal.refusal-index c.loop-refusal.text
    (omega (arith, c.loop-refusal-test.false)) c.loop-refusal.invariant
