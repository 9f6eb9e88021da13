use Rattle.drv_compile.proofs.Decided.{around_read}
use Rattle.drv_compile.proofs.deciding.decided_around.Goals as goal

-- Names: `around_read`: `decided_around` reads the line by the bytes of the spec file's path, and decides by what it read.

pub returns-clause-decision : goal.returns-clause-decision
returns-clause-decision g c F e =
    around_read F c.args.file c.as_bytes.result.now c.args.words.now c.args.around c.in_ok-reading.reading c.of_reading.result
    c.as_bytes.ensures (c.in_ok-reading.ensures.reading F e) c.of_reading.ensures
