use Rattle.drv_compile.proofs.Done.{work_spoken}
use Rattle.drv_compile.proofs.compiling.say_and_carry_out.Goals as goal
use Rattle.std.proofs.Common.{refl}

pub returns-in-Ok-clause-does : goal.returns-in-Ok-clause-does
returns-in-Ok-clause-does g c = work_spoken c.args.name.now _ _ _ c.args.prepared.now _ c.carry_out.result refl c.in-Ok.ensures.opens
    c.carry_out.ensures.does
