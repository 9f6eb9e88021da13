use Rattle.drv_compile.proofs.Done.{compiled_by_none}
use Rattle.drv_compile.proofs.compiling.compile.Goals as goal

-- Names: `compiled_by_none`: `compile` ends without facts where memory lacked for the folder of temporaries.

pub returns-in-Ok-clause-compiled : goal.returns-in-Ok-clause-compiled
returns-in-Ok-clause-compiled g c = c.compile_settled.ensures.compiled _ _ c.in-Ok.ensures.settles

pub returns-clause-compiled : goal.returns-clause-compiled
returns-clause-compiled g c = compiled_by_none c.args.request.now.calling.now c.args.request.now.own.now
    c.args.request.now.args.now c.args.request.now.seed c.settle.ensures.asks
