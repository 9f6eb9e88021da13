use Rattle.drv_machine.proofs.RunTurns.{byte_reached, run_worked}
use Rattle.drv_machine.proofs.turns.work_run.Goals as goal
use Rattle.drv_machine.specs.Code.Counting.{state}
use Rattle.std.proofs.Common.{ap, arith}

-- Names: `F`: what is known of the outside. `s`: the machine: what has been cut, and the world. `given`: what the walk gives in the end.
-- `left`: the clause's condition `Left`. `first`: the clause's equation. `state`: the state of a machine and its count. `byte_reached`: the
-- plain byte that is reached is in the slice that begins there. `run_worked`: after plain bytes that were put at once.

-- the slice has a byte at least, for the walk is at one
pub put_run-requires-clause-some : goal.put_run-requires-clause-some
put_run-requires-clause-some c =
    let byte = byte_reached c.args.text.now c.args.walk.now c.requires.lain c.requires.at_byte in
    c.plain_bytes-run.ensures.begins byte.0
    (omega (arith, c.requires.at_byte.before_end, c.min-end.ensures, c.saturating_add.ensures, c.left.ensures)) byte.1

-- the slice has no more bytes than items are left to the limit
pub put_run-requires-clause-room : goal.put_run-requires-clause-room
put_run-requires-clause-room c =
    omega (arith, c.requires.few, c.plain_bytes-run.ensures.within, c.min-end.ensures, c.saturating_add.ensures, c.left.ensures)

-- the bytes of the slice are put, which is a turn for each
pub returns-clause-does : goal.returns-clause-does
returns-clause-does c F C s given first left =
    let byte = byte_reached c.args.text.now c.args.walk.now c.requires.lain c.requires.at_byte in
    let some =
    c.plain_bytes-run.ensures.begins byte.0
    (omega (arith, c.requires.at_byte.before_end, c.min-end.ensures, c.saturating_add.ensures, c.left.ensures)) byte.1 in
    run_worked F C c.args.text.now given c.args.walk.now s (state c.args.tally.now) (state c.put_run.new.self) c.plain_bytes-run.result.now
    some c.plain_bytes-run.ensures.bytes (omega (arith, some, c.plain_bytes-run.ensures.within, c.min-end.ensures))
    (omega (arith, c.requires.few, c.plain_bytes-run.ensures.within, c.min-end.ensures, c.saturating_add.ensures, c.left.ensures))
    first left (ap state c.in_ok-put_run.ensures)
