use Rattle.drv_compile.proofs.Stamped.{other_here, other_later, other_nowhere}
use Rattle.drv_compile.proofs.stamps.any_other.Goals as goal
use Rattle.std.proofs.Common.{arith}

pub returns-then-branch : goal.returns-then-branch
returns-then-branch g c =
    other_here c.args.stamps.now c.loop-stamp.stamp-index c.stamp-item.result _ c.in_ok-is_other.field-0 _ _ _ c.loop-stamp-test.true
    c.stamp-item.is c.as_bytes.ensures c.if-branch.true c.in_ok-is_other.ensures c.loop-stamp.invariant

pub loop-stamp-preserved : goal.loop-stamp-preserved
loop-stamp-preserved g c =
    other_later c.args.stamps.now c.loop-stamp.stamp-index c.stamp-item.result _ c.in_ok-is_other.field-0 _ _ _ c.loop-stamp-test.true
    c.stamp-item.is c.as_bytes.ensures c.if-branch.false c.in_ok-is_other.ensures c.loop-stamp.invariant

pub returns : goal.returns
returns g c = other_nowhere c.args.stamps.now c.loop-stamp.stamp-index _ _ (omega (arith, c.loop-stamp-test.false)) c.loop-stamp.invariant
