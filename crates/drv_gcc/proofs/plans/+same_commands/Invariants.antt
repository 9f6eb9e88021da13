use Rattle.drv_gcc.proofs.plans.+same_commands.Given as goal
use Rattle.std.proofs.Common.{length}

abbrev pub decreases-same_commands : goal.decreases-same_commands
decreases-same_commands l = length l.one.now
