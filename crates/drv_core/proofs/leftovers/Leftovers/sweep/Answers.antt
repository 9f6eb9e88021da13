use Rattle.drv_core.proofs.Sweeping.{swept_by}
use Rattle.drv_core.proofs.leftovers.Leftovers.sweep.Goals as goal
use Rattle.std.proofs.Common.{◌∙◌}

-- what is gathered is what is left
pub returns-clause-due : goal.returns-clause-due
returns-clause-due c = c.gather.ensures.due
    ∙ rw (c.count.ensures.claimed, c.count.ensures.called, c.count.ensures.gone, c.count.ensures.files)
    (swept_by c.args.plan.now c.args.events.now c.args.self.now c.requires.fresh)
