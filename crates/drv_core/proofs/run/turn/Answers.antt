use Rattle.drv_core.proofs.Contracts.{turned_kept, turned_window}
use Rattle.drv_core.proofs.run.turn.Goals as goal

-- after a choice what is known of the run still holds
pub returns-clause-kept : goal.returns-clause-kept
returns-clause-kept c = turned_kept c.args.plan.now c.args.work.now c.choose.new.self c.args.choice c.requires.kept c.requires.choice
    (c.choose.ensures.chosen c.args.plan.now) (c.choose.ensures.rooms c.args.plan.now c.requires.kept.rooms)
    (c.choose.ensures.unswept c.args.plan.now c.requires.kept.unswept)

-- the window stays
pub returns-clause-window : goal.returns-clause-window
returns-clause-window c = turned_window c.args.plan.now c.args.work.now c.choose.new.self c.args.choice
    (c.choose.ensures.chosen c.args.plan.now)
