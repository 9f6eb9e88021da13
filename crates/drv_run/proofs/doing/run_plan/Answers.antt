use Rattle.drv_run.proofs.Tellings.{no_pipe_after_announced, no_pipe_after_texts, plan_carried_out}
use Rattle.drv_run.proofs.doing.run_plan.Goals as goal
use Rattle.drv_run.specs.Executed.{Executed}
use Rattle.std.proofs.Common.{subst}

-- Names: `no_pipe_after_announced`: where no pipe was pending, none is after what is said of a plan. `no_pipe_after_texts`: where no pipe
-- was pending, none is after texts. `plan_carried_out`: the texts, and then the run, are the plan carried out.

-- after what is said of the plan no pipe is pending, as `execute` requires
pub execute-requires-clause-pipe : goal.execute-requires-clause-pipe
execute-requires-clause-pipe g c =
    no_pipe_after_announced c.args.name.now (g.S.System.events c.args.sys.now)
    (g.S.System.events c.announce.new.sys) c.args.manner.telling c.args.plan.now c.in_ok-announce.ensures.announces c.requires.pipe

-- what was said and what was run are the plan carried out
pub returns-clause-runs : goal.returns-clause-runs
returns-clause-runs g c =
    plan_carried_out c.args.name.now (g.S.System.events c.args.sys.now) (g.S.System.events c.announce.new.sys)
    (g.S.System.events c.execute.new.sys) c.args.plan.now c.args.manner c.in_ok-status.status
    c.in_ok-announce.ensures.announces (subst (λ window. Executed c.args.plan.now c.args.manner.pass_codes window
    (g.S.System.events c.announce.new.sys) (g.S.System.events c.execute.new.sys) c.in_ok-status.status) c.sources-window.ensures.sources
    c.in_ok-status.ensures.executed)

-- where memory is lacking for what is said, no pipe is pending either
pub returns-in_err-announce-clause-pipe : goal.returns-in_err-announce-clause-pipe
returns-in_err-announce-clause-pipe g c = no_pipe_after_texts (g.S.System.events c.args.sys.now)
    (g.S.System.events c.announce.new.sys) c.in_err-announce.ensures.memory c.requires.pipe
