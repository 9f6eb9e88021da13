use Rattle.drv_core.proofs.Fleets.{able_length}
use Rattle.drv_core.proofs.fleet.Fleet.count_able.Goals as goal
use Rattle.drv_core.specs.Code.Fleet.{going}
use Rattle.drv_core.specs.Code.FleetView.{fleet_of}
use Rattle.std.proofs.Common.{◌+◌, ◌∙◌, ap, if◌then◌else◌, length, sym}

-- the next source may begin too
pub returns-then-may_begin : goal.returns-then-may_begin
returns-then-may_begin c = ap (λ n. n + 1) (c.count_going-going.ensures.going c.args.jobs.now)
    ∙ ap (λ t. if t then length (going (fleet_of c.args.jobs.now c.args.self.now)) + 1 else length
    (going (fleet_of c.args.jobs.now c.args.self.now)))
    c.if-may_begin.ensures ∙ sym (able_length c.args.jobs.now (fleet_of c.args.jobs.now c.args.self.now))

-- or it may not
pub returns-else-may_begin : goal.returns-else-may_begin
returns-else-may_begin c = c.count_going-going.ensures.going c.args.jobs.now
    ∙ ap (λ t. if t then length (going (fleet_of c.args.jobs.now c.args.self.now)) + 1 else length
    (going (fleet_of c.args.jobs.now c.args.self.now)))
    c.if-may_begin.ensures ∙ sym (able_length c.args.jobs.now (fleet_of c.args.jobs.now c.args.self.now))
