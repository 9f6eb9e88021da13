use Rattle.drv_core.proofs.Contracts.{begun, begun_first, fresh_events, fresh_window}
use Rattle.drv_core.proofs.run.Run.new.Goals as goal
use Rattle.drv_core.specs.Code.Course.{fresh_course}
use Rattle.std.proofs.Common.{◌∙◌, ap}

-- what is known of a run holds at its beginning
pub invariant_of-result : goal.invariant_of-result
invariant_of-result c = begun c.args.plan.now c.in_ok-work.work c.args.window c.requires.some c.in_ok-work.ensures.filled
    c.in_ok-work.ensures.rooms
    c.in_ok-work.ensures.unswept (c.in_ok-work.ensures.fresh ∙ ap (fresh_course c.args.plan.now) c.new-sources.ensures)
    (fresh_window c.args.plan.now c.in_ok-work.work c.args.window (c.in_ok-work.ensures.fresh
    ∙ ap (fresh_course c.args.plan.now) c.new-sources.ensures))

-- its window is the one that was given
pub returns-clause-window : goal.returns-clause-window
returns-clause-window c = fresh_window c.args.plan.now c.in_ok-work.work c.args.window
    (c.in_ok-work.ensures.fresh ∙ ap (fresh_course c.args.plan.now) c.new-sources.ensures)

-- it has no events yet
pub returns-clause-events : goal.returns-clause-events
returns-clause-events c = fresh_events c.args.plan.now c.in_ok-work.work c.args.window
    (c.in_ok-work.ensures.fresh ∙ ap (fresh_course c.args.plan.now) c.new-sources.ensures)

-- its first step is of the first source that has something to do
pub returns-clause-first : goal.returns-clause-first
returns-clause-first c = begun_first c.args.plan.now c.args.pass_codes c.in_ok-work.work c.args.window c.requires.some
    (fresh_window c.args.plan.now c.in_ok-work.work c.args.window (c.in_ok-work.ensures.fresh
    ∙ ap (fresh_course c.args.plan.now) c.new-sources.ensures))
    (c.in_ok-work.ensures.fresh ∙ ap (fresh_course c.args.plan.now) c.new-sources.ensures)
