use Rattle.drv_compile.proofs.Done.{compiled_done, compiled_stopped}
use Rattle.drv_compile.proofs.Settled.{going_further}
use Rattle.drv_compile.proofs.compiling.compile_settled.Goals as goal
use Rattle.std.proofs.Common.{rules}

-- Names: `journal`: what was done outside so far. `notes`: the calls of the host so far. `before`: the clause's condition `Going`.
-- `going_further`: `compile_settled` asks more, and still goes by that folder. `compiled_done`: `compile_settled` carries out what was
-- prepared, in the name of the call.

-- what was prepared was carried out: the call is compiled
pub returns-in-Ok-clause-compiled : goal.returns-in-Ok-clause-compiled
returns-in-Ok-clause-compiled g c journal notes before =
    let asks = c.prepare.ensures.asks.asks in
    compiled_done c.args.request.now.calling.now c.args.request.now.own.now c.args.request.now.args.now c.args.request.now.seed
    c.in-Ok.prepared _ c.carried_out.result c.as_bytes-name.ensures
    (going_further before (search rules)) c.in-Ok.ensures.comes c.carried_out.ensures.carries

-- the call stopped before that, and said why
pub returns-in-Err-clause-compiled : goal.returns-in-Err-clause-compiled
returns-in-Err-clause-compiled g c journal notes before =
    let asks = c.prepare.ensures.asks.asks in
    compiled_stopped c.args.request.now.calling.now c.args.request.now.own.now c.args.request.now.args.now c.args.request.now.seed
    c.in-Err.stop c.say_stop.result
    (going_further before (search rules)) c.in-Err.ensures.comes c.say_stop.ensures.tells
