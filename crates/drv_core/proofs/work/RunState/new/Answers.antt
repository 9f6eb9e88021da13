use Rattle.drv_core.proofs.Rooms.{plan_filled, rooms_from}
use Rattle.drv_core.proofs.work.RunState.new.Goals as goal
use Rattle.drv_core.specs.Code.FleetView.{AllInRoom}
use Rattle.drv_core.specs.Filled.{Filled}
use Rattle.drv_words.specs.Places.{no_job}
use Rattle.std.proofs.Common.{◌<◌, ◌≡◌, ap, arith, get_or, length, subst, sym, ℕ}
use Rattle.std.specs.Vec.{vec_capacity}

-- there is room for all that it does
pub returns-clause-rooms : goal.returns-clause-rooms
returns-clause-rooms c = rooms_from c.args.plan.now c.leave_sources.new.self c.in_ok-new.field-0 c.in_ok-link_source.field-0
    (vec_capacity c.in_ok-room_for.field-0) c.leave_sources.ensures.fleet c.leave_sources.ensures.link
    (ap (λ e. vec_capacity e) c.leave_sources.ensures.events)
    (subst (λ (jobs : _). length c.in_ok-new.field-0.sources.items ≡ length jobs) c.as_slice.ensures c.in_ok-new.ensures.many)
    (subst (λ jobs. AllInRoom jobs c.in_ok-new.field-0.sources.items) c.as_slice.ensures c.in_ok-new.ensures.room)
    (subst (λ r. r.window < r.room) (sym c.in_ok-new.ensures.fresh) (omega arith)) c.in_ok-link_source.ensures.room
    c.in_ok-room_for.ensures.room

-- no group is empty
pub returns-clause-filled : goal.returns-clause-filled
returns-clause-filled c = plan_filled c.args.plan.now (subst (λ jobs. (k : ℕ) → Filled (get_or jobs k no_job)) c.as_slice.ensures
    c.in_ok-new.ensures.filled) c.in_ok-link_source.ensures.filled
