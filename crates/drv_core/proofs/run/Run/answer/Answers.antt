use Rattle.drv_core.proofs.Contracts.{answered_events, answered_first}
use Rattle.drv_core.proofs.run.Run.answer.Goals as goal

-- the events grow by the step with its answer
pub returns-clause-events : goal.returns-clause-events
returns-clause-events c = answered_events c.self.inside.plan.now c.self.inside.pass_codes c.self.inside.work
    c.advance.new.work c.args.self.now
    c.args.answer c.self.view_is c.advance.ensures.moved

-- without a choice the first source that may goes on
pub returns-clause-first : goal.returns-clause-first
returns-clause-first c = answered_first c.self.inside.plan.now c.self.inside.pass_codes c.self.inside.work c.advance.new.work
    c.args.self.now c.args.answer c.self.invariant c.self.view_is c.requires.more c.requires.fits c.advance.ensures.moved
    c.advance.ensures.window
