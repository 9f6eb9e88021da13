use Rattle.drv_core.proofs.Fleets.{stays, turns_on}
use Rattle.drv_core.proofs.fleet.Fleet.take.Goals as goal
use Rattle.drv_core.specs.Code.Fleet.{worked}
use Rattle.drv_core.specs.Code.FleetView.{AllInRoom, fleet_of}
use Rattle.std.proofs.Common.{subst, sym}

-- the source is inside a block, and stays in progress
pub returns-then-is_inside-clause-taken : goal.returns-then-is_inside-clause-taken
returns-then-is_inside-clause-taken c = stays c.args.jobs.now
    (worked c.args.jobs.now (fleet_of c.args.jobs.now c.args.self.now) c.args.answer)
    (fleet_of c.args.jobs.now c.work.new.self) c.work.ensures.fleet (c.if-is_inside.ensures c.args.jobs.now)

pub returns-then-is_inside-clause-children : goal.returns-then-is_inside-clause-children
returns-then-is_inside-clause-children c = c.work.ensures.children

-- its block is whole: a source goes on that may
pub returns-clause-taken : goal.returns-clause-taken
returns-clause-taken c = turns_on c.args.jobs.now (worked c.args.jobs.now (fleet_of c.args.jobs.now c.args.self.now) c.args.answer)
    (fleet_of c.args.jobs.now c.work.new.self) (fleet_of c.args.jobs.now c.turn.new.self) c.work.ensures.fleet
    (c.if-is_inside.ensures c.args.jobs.now) c.turn.ensures.turned

pub returns-clause-children : goal.returns-clause-children
returns-clause-children c = subst (λ l. AllInRoom c.args.jobs.now l) (sym c.turn.ensures.sources) c.work.ensures.children
