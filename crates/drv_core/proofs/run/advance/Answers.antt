use Rattle.drv_core.proofs.Runs.{answered, is_ready, room_at, same_window}
use Rattle.drv_core.proofs.run.advance.Goals as goal
use Rattle.std.proofs.Common.{◌∙◌, sym}

-- what is known of the run is what the code relies on
pub asks-requires : goal.asks-requires
asks-requires c = is_ready c.args.plan.now c.args.work.now c.requires.kept

-- the same for the answer
pub take-requires-clause-ready : goal.take-requires-clause-ready
take-requires-clause-ready c = is_ready c.args.plan.now c.args.work.now c.requires.kept

-- a step that is asked for has room for its event
pub take-requires-clause-room : goal.take-requires-clause-room
take-requires-clause-room c = room_at c.args.plan.now c.args.work.now c.in-Some.step c.requires.kept (sym c.asks.ensures ∙ c.in-Some.is)

-- after the answer what is known of the run still holds
pub returns-in-Some-clause-kept : goal.returns-in-Some-clause-kept
returns-in-Some-clause-kept c = answered c.args.plan.now c.args.work.now c.take.new.self c.in-Some.step c.args.answer c.requires.kept
    (sym c.asks.ensures ∙ c.in-Some.is) (c.requires.kind c.in-Some.step (sym c.asks.ensures ∙ c.in-Some.is)) c.take.ensures.takes
    c.take.ensures.rooms c.take.ensures.unswept

-- the window stays
pub returns-in-Some-clause-window : goal.returns-in-Some-clause-window
returns-in-Some-clause-window c = same_window c.args.plan.now c.args.work.now c.take.new.self c.in-Some.step
    c.args.answer c.take.ensures.takes
