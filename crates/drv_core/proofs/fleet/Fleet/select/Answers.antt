use Rattle.drv_core.proofs.fleet.Fleet.select.Goals as goal
use Rattle.drv_core.specs.Code.FleetView.{fleet_of}
use Rattle.std.proofs.Common.{ap}

-- the source of this number goes on, and nothing else changes
pub returns-clause-selected : goal.returns-clause-selected
returns-clause-selected c jobs = ap (λ n. record (fleet_of jobs c.args.self.now) { current = n }) (c.nth_going-self.ensures jobs)
