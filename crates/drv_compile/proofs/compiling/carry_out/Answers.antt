use Rattle.drv_compile.proofs.Done.{longer_than, work_noted}
use Rattle.drv_compile.proofs.compiling.carry_out.Goals as goal
use Rattle.std.proofs.Common.{ap, length}

-- Names: `longer_than`: `done` counts the events before a work. `work_noted`: `done` does its work whole where it says something after it.

pub say_hint_or_remark-requires-clause-before : goal.say_hint_or_remark-requires-clause-before
say_hint_or_remark-requires-clause-before g c =
    longer_than _ _ _ c.args.name.now c.args.prepared.now c.in-Ok.status c.journal-before.ensures
    c.in-Ok.ensures.does

pub returns-in-Ok-clause-does : goal.returns-in-Ok-clause-does
returns-in-Ok-clause-does g c =
    work_noted c.args.name.now _ _ _ c.args.prepared.now c.in-Ok.status _ c.say_hint_or_remark.result
    (ap length c.journal-before.ensures) c.in-Ok.ensures.does c.say_hint_or_remark.ensures.notes
