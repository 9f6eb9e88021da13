use Rattle.drv_core.proofs.work.RunState.choose.Goals as goal
use Rattle.drv_core.specs.Code.CourseView.{course_of}
use Rattle.drv_core.specs.Code.Fleet.{selected}
use Rattle.drv_core.specs.Code.FleetView.{AllInRoom}
use Rattle.std.proofs.Common.{◌<◌, ◌∙◌, ap, if◌then◌else◌, length, subst, sym}

-- the source of this number goes on
pub returns-then-is_between-clause-chosen : goal.returns-then-is_between-clause-chosen
returns-then-is_between-clause-chosen c plan = ap (λ f. record (course_of plan c.args.self.now) { fleet = f })
    (c.select.ensures.selected plan.jobs)
    ∙ ap (λ t. if t then record (course_of plan c.args.self.now) { fleet = selected (course_of plan c.args.self.now).fleet c.args.choice }
    else course_of plan c.args.self.now) (c.if-is_between.ensures plan)

-- nothing else changes
pub returns-then-is_between-clause-rooms : goal.returns-then-is_between-clause-rooms
returns-then-is_between-clause-rooms c plan rooms = record {
  sources = ap (λ (l : _). length l) c.select.ensures.sources ∙ rooms.sources;
  children = subst (λ l. AllInRoom plan.jobs l) (sym c.select.ensures.sources) rooms.children;
  begun = subst (λ r. r.window < r.room) (sym (c.select.ensures.selected plan.jobs)) rooms.begun;
  link = rooms.link;
  events = rooms.events;
}
