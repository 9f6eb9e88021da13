use Rattle.drv_after.proofs.running.story_over.Given as goal
use Rattle.drv_core.specs.Needed.{needed}
use Rattle.std.proofs.Common.{◌-◌, length}

-- a run has at most so many events, and each turn adds one
abbrev pub decreases-loop-status : goal.decreases-loop-status
decreases-loop-status l = needed l.run.plan - length l.run.events
