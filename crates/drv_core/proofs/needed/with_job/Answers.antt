use Rattle.drv_core.proofs.Needs.{all_counted}
use Rattle.drv_core.proofs.needed.with_job.Goals as goal
use Rattle.drv_core.specs.Needed.{job_events}
use Rattle.std.proofs.Common.{◌+◌, ◌*◌, length}

-- four events for each command of each group
pub returns : goal.returns
returns c = all_counted (λ group. 4 * length group) c.as_slice-group-items.result.now c.loop-group.group-index c.loop-group.total
    (c.args.before + job_events c.args.job.now) c.loop-group-test.false c.loop-group.invariant.counted c.loop-group.invariant.fits
