use Rattle.drv_core.proofs.Rooms.{rooms_from}
use Rattle.drv_core.proofs.work.RunState.take_link.Goals as goal
use Rattle.std.proofs.Common.{ap}
use Rattle.std.specs.Vec.{vec_capacity}

-- there is room as before
pub returns-clause-rooms : goal.returns-clause-rooms
returns-clause-rooms c = rooms_from c.args.plan.now c.enter_link.new.self c.work_link.new.self.fleet c.work_link.new.self.link
    (vec_capacity c.work_link.new.self.events) c.enter_link.ensures.fleet c.enter_link.ensures.link
    (ap (λ e. vec_capacity e) c.enter_link.ensures.events) c.work_link.ensures.rooms.sources c.work_link.ensures.rooms.children
    c.work_link.ensures.rooms.begun c.work_link.ensures.rooms.link c.work_link.ensures.rooms.events
