use Rattle.drv_core.proofs.Contracts.{choices_told}
use Rattle.drv_core.proofs.run.Run.choices.Goals as goal

-- the code counts the sources that may go on, or one
pub returns : goal.returns
returns c = choices_told c.self.inside.plan.now c.self.inside.pass_codes c.self.inside.work c.args.self.now c.choices.result
    c.self.invariant c.self.view_is c.choices.ensures
