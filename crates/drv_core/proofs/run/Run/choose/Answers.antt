use Rattle.drv_core.proofs.Contracts.{choice_of, turned_elsewhere, turned_events, turned_next}
use Rattle.drv_core.proofs.run.Run.choose.Goals as goal

-- Names: `choice_of`: a choice of the run that a caller sees is one of the code's. `turned_elsewhere`: the clause of `choose`.

-- a choice that the caller may make is one of the code's
pub turn-requires-clause-choice : goal.turn-requires-clause-choice
turn-requires-clause-choice c = choice_of c.self.inside.plan.now c.self.inside.pass_codes c.self.inside.work c.args.self.now c.args.choice
    c.self.view_is c.requires

-- the next step is of the chosen source
pub returns-clause-next : goal.returns-clause-next
returns-clause-next c = turned_next c.self.inside.plan.now c.self.inside.pass_codes c.self.inside.work c.turn.new.work c.args.self.now
    c.args.choice c.self.invariant c.self.view_is c.requires c.turn.ensures.chosen

-- where nothing can be chosen, nothing changes
pub returns-clause-elsewhere : goal.returns-clause-elsewhere
returns-clause-elsewhere c = turned_elsewhere c.self.inside.plan.now c.self.inside.pass_codes c.self.inside.work c.turn.new.work
    c.args.self.now c.args.choice c.self.invariant c.self.view_is c.turn.ensures.chosen

-- a choice is no event
pub returns-clause-events : goal.returns-clause-events
returns-clause-events c = turned_events c.self.inside.plan.now c.self.inside.pass_codes c.self.inside.work c.turn.new.work c.args.self.now
    c.args.choice c.self.view_is c.turn.ensures.chosen
