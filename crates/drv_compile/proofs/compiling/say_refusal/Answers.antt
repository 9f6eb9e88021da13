use Rattle.drv_compile.proofs.Done.{no_pipe_after_text}
use Rattle.drv_compile.proofs.compiling.say_refusal.Goals as goal

pub returns-in-Ok-clause-pipe : goal.returns-in-Ok-clause-pipe
returns-in-Ok-clause-pipe g c = no_pipe_after_text (g.S.System.events c.args.sys.now) _ _ _ c.in-Ok.ensures.event c.requires.pipe
