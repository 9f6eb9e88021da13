use Rattle.drv_machine.proofs.placing.word_counts.Given as goal
use Rattle.drv_machine.specs.Traces.{word_counts}
use Rattle.std.proofs.Common.{drop, ◌++◌, ◌≡◌}

-- The loops of word_counts (src/placing.rt). How many words each command of these groups is.

-- the counts so far are those of the groups so far
abbrev pub invariant-loop-group : goal.invariant-loop-group
invariant-loop-group l = l.counts ++ word_counts (drop l.group-index l.groups) ≡ word_counts l.groups
