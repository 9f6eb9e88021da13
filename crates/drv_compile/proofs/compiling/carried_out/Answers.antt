use Rattle.drv_compile.proofs.Done.{carried, nothing_carried}
use Rattle.drv_compile.proofs.compiling.carried_out.Goals as goal

-- Names: `carried`: after all variables were set, the line was carried out. `nothing_carried`: `carried_out` did nothing where memory
-- lacked for a variable.

pub returns-in-Ok-clause-carries : goal.returns-in-Ok-clause-carries
returns-in-Ok-clause-carries g c =
    carried c.args.name.now _ _ _ c.args.prepared.now _ _ _ c.say_and_carry_out.result c.as_slice.ensures c.in-Ok.ensures.sets
    c.in-Ok.ensures.unchanged c.say_and_carry_out.ensures.does

pub returns-in-Err-clause-carries : goal.returns-in-Err-clause-carries
returns-in-Err-clause-carries g c = nothing_carried c.args.name.now _ _ c.args.prepared.now _ _ c.in-Err.ensures.sets
    c.in-Err.ensures.unchanged
