use Rattle.drv_core.proofs.fleet.Fleet.turn.Goals as goal
use Rattle.drv_core.specs.Code.Fleet.{closed, selected}
use Rattle.drv_core.specs.Code.FleetView.{fleet_of}
use Rattle.std.proofs.Common.{ap, ◌∙◌}

-- the block is closed, and the first source that may goes on
pub returns-clause-turned : goal.returns-clause-turned
returns-clause-turned c = ap (λ n. record (fleet_of c.args.jobs.now c.close.new.self) { current = n })
    (c.nth_going-self.ensures c.args.jobs.now)
    ∙ ap (λ f. selected f 0) (c.close.ensures.closed c.args.jobs.now ∙ ap closed c.«open».ensures.opened)
