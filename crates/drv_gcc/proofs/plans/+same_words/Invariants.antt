use Rattle.drv_gcc.proofs.plans.+same_words.Given as goal
use Rattle.std.proofs.Common.{length}

abbrev pub decreases-same_words : goal.decreases-same_words
decreases-same_words l = length l.one.now
