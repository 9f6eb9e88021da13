use Rattle.drv_machine.proofs.placing.origin_counts.Given as goal
use Rattle.std.proofs.Common.{drop, length, map, ◌++◌, ◌≡◌}

-- The loops of origin_counts (src/placing.rt). How many origins each command has.

-- the counts so far are those of the commands so far
abbrev pub invariant-loop-words : goal.invariant-loop-words
invariant-loop-words l = l.counts ++ map length (drop l.words-index l.commands) ≡ map length l.commands
