use Rattle.drv_compile.proofs.Done.{no_bytes, no_pipe_after_text, nothing_opened, some_bytes, text_opened}
use Rattle.drv_compile.proofs.compiling.say_before.Goals as goal

-- Names: `no_bytes`: `is_empty` says that a text has no bytes. `no_pipe_after_text`: a text that is said starts nothing.

pub returns-in_ok-say-clause-opens : goal.returns-in_ok-say-clause-opens
returns-in_ok-say-clause-opens g c =
    text_opened (g.S.System.events c.args.sys.now) _ c.args.said.now _
    (some_bytes _ _ c.is_empty.ensures c.if-not-is_empty.true) c.in_ok-say.ensures.event

pub returns-in_ok-say-clause-pipe : goal.returns-in_ok-say-clause-pipe
returns-in_ok-say-clause-pipe g c = no_pipe_after_text (g.S.System.events c.args.sys.now) _ _ _ c.in_ok-say.ensures.event c.requires.pipe

pub returns-else-not-is_empty-clause-opens : goal.returns-else-not-is_empty-clause-opens
returns-else-not-is_empty-clause-opens g c =
    nothing_opened (g.S.System.events c.args.sys.now) c.args.said.now (no_bytes _ _ c.is_empty.ensures c.if-not-is_empty.false)
