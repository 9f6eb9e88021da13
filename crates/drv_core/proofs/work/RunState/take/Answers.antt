use Rattle.drv_core.proofs.Rooms.{rooms_from}
use Rattle.drv_core.proofs.work.RunState.take.Goals as goal
use Rattle.std.proofs.Common.{◌∙◌, ap}
use Rattle.std.specs.Vec.{vec_capacity}

-- there is room as before
pub returns-in-Removals-clause-rooms : goal.returns-in-Removals-clause-rooms
returns-in-Removals-clause-rooms c = rooms_from c.args.plan.now c.take_removal.new.self c.args.self.now.fleet c.args.self.now.link
    (vec_capacity c.args.self.now.events) c.take_removal.ensures.fleet c.take_removal.ensures.link
    (ap (λ e. vec_capacity e) c.take_removal.ensures.events ∙ c.push_reserved.ensures.capacity) c.requires.rooms.sources
    c.requires.rooms.children
    c.requires.rooms.begun c.requires.rooms.link c.requires.rooms.events

pub returns-in-Report-clause-rooms : goal.returns-in-Report-clause-rooms
returns-in-Report-clause-rooms c = rooms_from c.args.plan.now c.pass.new.self c.args.self.now.fleet c.args.self.now.link
    (vec_capacity c.args.self.now.events) c.pass.ensures.fleet c.pass.ensures.link
    (ap (λ e. vec_capacity e) c.pass.ensures.events ∙ c.push_reserved.ensures.capacity) c.requires.rooms.sources c.requires.rooms.children
    c.requires.rooms.begun c.requires.rooms.link c.requires.rooms.events
