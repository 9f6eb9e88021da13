use Rattle.drv_core.proofs.Contracts.{knows}
use Rattle.drv_core.proofs.run.Run.next.Goals as goal

-- Names: `knows`: the clauses of `next`, of a run of the code that a caller sees as r.

-- all clauses are fields of `knows`; here: the events so far are the beginning of a whole run
pub returns-clause-beginning : goal.returns-clause-beginning
returns-clause-beginning c = (knows c.self.inside.plan.now c.self.inside.pass_codes c.self.inside.work c.args.self.now c.look.result
    c.self.invariant c.self.view_is c.look.ensures).beginning

-- the step can be made
pub returns-clause-possible : goal.returns-clause-possible
returns-clause-possible c = (knows c.self.inside.plan.now c.self.inside.pass_codes c.self.inside.work c.args.self.now c.look.result
    c.self.invariant c.self.view_is c.look.ensures).possible

-- the events so far are within the bound
pub returns-clause-bound : goal.returns-clause-bound
returns-clause-bound c = (knows c.self.inside.plan.now c.self.inside.pass_codes c.self.inside.work c.args.self.now c.look.result
    c.self.invariant c.self.view_is c.look.ensures).bound

-- where a step is left they are fewer
pub returns-clause-fewer : goal.returns-clause-fewer
returns-clause-fewer c = (knows c.self.inside.plan.now c.self.inside.pass_codes c.self.inside.work c.args.self.now c.look.result
    c.self.invariant c.self.view_is c.look.ensures).fewer

-- where a step is left the run is not whole
pub returns-clause-unfinished : goal.returns-clause-unfinished
returns-clause-unfinished c = (knows c.self.inside.plan.now c.self.inside.pass_codes c.self.inside.work c.args.self.now c.look.result
    c.self.invariant c.self.view_is c.look.ensures).unfinished

-- where none is left it is whole
pub returns-clause-whole : goal.returns-clause-whole
returns-clause-whole c = (knows c.self.inside.plan.now c.self.inside.pass_codes c.self.inside.work c.args.self.now c.look.result
    c.self.invariant c.self.view_is c.look.ensures).whole

-- then no pipe is pending
pub returns-clause-pipe : goal.returns-clause-pipe
returns-clause-pipe c = (knows c.self.inside.plan.now c.self.inside.pass_codes c.self.inside.work c.args.self.now c.look.result
    c.self.invariant c.self.view_is c.look.ensures).pipe

-- and the status is that of its codes
pub returns-clause-status : goal.returns-clause-status
returns-clause-status c = (knows c.self.inside.plan.now c.self.inside.pass_codes c.self.inside.work c.args.self.now c.look.result
    c.self.invariant c.self.view_is c.look.ensures).status
