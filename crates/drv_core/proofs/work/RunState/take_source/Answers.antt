use Rattle.drv_core.proofs.Rooms.{begun_room, rooms_from}
use Rattle.drv_core.proofs.work.RunState.take_source.Goals as goal
use Rattle.drv_core.specs.Code.Course.{sourced}
use Rattle.drv_core.specs.Code.CourseView.{course_of}
use Rattle.drv_core.specs.Code.Fleet.{taken}
use Rattle.drv_core.specs.Code.FleetView.{AllInRoom, fleet_of}
use Rattle.std.proofs.Common.{◌≡◌, ◌∙◌, ap, subst, sym}
use Rattle.std.specs.Vec.{vec_capacity}

-- each source has room
pub take-requires-clause-children : goal.take-requires-clause-children
take-requires-clause-children c = subst (λ jobs. AllInRoom jobs c.args.self.now.fleet.sources.items)
    (sym c.as_slice.ensures) c.requires.rooms.children

-- the fleet takes the answer, and the run leaves the sources if they have ended
pub returns-clause-takes : goal.returns-clause-takes
returns-clause-takes c = c.leave_sources.ensures.leaves
    ∙ ap (λ f. sourced c.args.plan.now (record (course_of c.args.plan.now c.args.self.now) { fleet = f }))
    (subst (λ jobs. fleet_of jobs c.take.new.self ≡ taken jobs (fleet_of jobs c.args.self.now.fleet) c.args.answer)
    c.as_slice.ensures c.take.ensures.taken)

-- there is room as before
pub returns-clause-rooms : goal.returns-clause-rooms
returns-clause-rooms c = rooms_from c.args.plan.now c.leave_sources.new.self c.take.new.self c.args.self.now.link
    (vec_capacity c.args.self.now.events) c.leave_sources.ensures.fleet c.leave_sources.ensures.link
    (ap (λ e. vec_capacity e) c.leave_sources.ensures.events) (c.take.ensures.many ∙ c.requires.rooms.sources)
    (subst (λ jobs. AllInRoom jobs c.take.new.self.sources.items) c.as_slice.ensures c.take.ensures.children)
    (begun_room c.args.plan.now.jobs c.args.self.now.fleet c.take.new.self c.args.answer
    (subst (λ jobs. fleet_of jobs c.take.new.self ≡ taken jobs (fleet_of jobs c.args.self.now.fleet) c.args.answer)
    c.as_slice.ensures c.take.ensures.taken)
    c.requires.rooms.begun) c.requires.rooms.link c.requires.rooms.events
