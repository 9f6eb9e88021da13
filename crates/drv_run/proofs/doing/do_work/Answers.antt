use Rattle.drv_run.proofs.Tellings.{no_pipe_after_dump, no_pipe_after_shown}
use Rattle.drv_run.proofs.doing.do_work.Goals as goal

-- Names: `no_pipe_after_dump`: where no pipe was pending, none is after a dump. `no_pipe_after_shown`: where no pipe was pending, none is
-- after a plan that is shown.

-- after a dump no pipe is pending
pub returns-in-Dump-clause-pipe : goal.returns-in-Dump-clause-pipe
returns-in-Dump-clause-pipe g c =
    no_pipe_after_dump c.args.name.now (g.S.System.events c.args.sys.now)
    (g.S.System.events c.put_dump.new.sys) c.in-Dump.text c.put_dump.result
    (c.put_dump.ensures.puts c.args.name.now) c.put_dump.ensures.memory c.requires.pipe

-- nor after a plan that is shown
pub returns-in-Show-clause-pipe : goal.returns-in-Show-clause-pipe
returns-in-Show-clause-pipe g c =
    no_pipe_after_shown c.args.name.now (g.S.System.events c.args.sys.now)
    (g.S.System.events c.say_plan.new.sys) c.in-Show.plan c.say_plan.result c.say_plan.ensures.shows c.say_plan.ensures.memory
    c.requires.pipe
