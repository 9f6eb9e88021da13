use Rattle.drv_dump.proofs.Steps.{dump_refused, dump_taken, handed_on}
use Rattle.drv_dump.proofs.dump.entries.Goals as goal
use Rattle.std.proofs.Common.{refl}

-- Names: `dump_refused`: a byte of a dump is refused, and so is the dump. `dump_taken`: a byte of a dump is taken.

pub loop-at-preserved : goal.loop-at-preserved
loop-at-preserved c =
    dump_taken c.args.dump.now c.loop-at.at _ 0 c.loop-at.reader c.take.new.self _
    c.loop-at-test.true refl c.in_ok-take.ensures c.loop-at.invariant

pub returns-in_err-take : goal.returns-in_err-take
returns-in_err-take c =
    handed_on _ c.in_err-take.field-0.0 c.from_residual.result _ _ c.from_residual.ensures.1
    (dump_refused c.args.dump.now c.loop-at.at _ 0 c.loop-at.reader _ c.in_err-take.field-0.0 _
    c.loop-at-test.true refl c.in_err-take.ensures c.loop-at.invariant)
