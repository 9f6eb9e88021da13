use Rattle.drv_compile.proofs.Done.{no_bytes, no_pipe_after_text, nothing_closed, some_bytes, text_closed, text_unclosed}
use Rattle.drv_compile.proofs.compiling.say_after.Goals as goal

-- Names: `some_bytes`: `is_empty` says that a text has bytes. `no_bytes`: `is_empty` says that a text has no bytes. `no_pipe_after_text`: a
-- text that is said starts nothing.

pub returns-then-is_empty-clause-closes : goal.returns-then-is_empty-clause-closes
returns-then-is_empty-clause-closes g c =
    nothing_closed (g.S.System.events c.args.sys.now) c.args.text.now c.args.status (no_bytes _ _ c.is_empty.ensures c.if-is_empty.true)

pub returns-in-Ok-clause-closes : goal.returns-in-Ok-clause-closes
returns-in-Ok-clause-closes g c =
    text_closed (g.S.System.events c.args.sys.now) _ c.args.text.now c.args.status _ (some_bytes _ _ c.is_empty.ensures c.if-is_empty.false)
    c.in-Ok.ensures.event

pub returns-in-Ok-clause-pipe : goal.returns-in-Ok-clause-pipe
returns-in-Ok-clause-pipe g c = no_pipe_after_text (g.S.System.events c.args.sys.now) _ _ _ c.in-Ok.ensures.event c.requires.pipe

pub returns-in-Err-clause-closes : goal.returns-in-Err-clause-closes
returns-in-Err-clause-closes g c =
    text_unclosed (g.S.System.events c.args.sys.now) _ c.args.text.now c.args.status (some_bytes _ _ c.is_empty.ensures c.if-is_empty.false)
    c.in-Err.ensures.memory
