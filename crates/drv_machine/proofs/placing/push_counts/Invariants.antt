use Rattle.drv_machine.proofs.placing.push_counts.Given as goal
use Rattle.drv_machine.specs.Traces.{word_count}
use Rattle.std.proofs.Common.{drop, map, ◌++◌, ◌≡◌}

-- The loops of push_counts (src/placing.rt). Adds how many words each of these commands is.

-- the counts so far are those of the commands so far
abbrev pub invariant-loop-command : goal.invariant-loop-command
invariant-loop-command l = l.counts ++ map word_count (drop l.command-index l.commands) ≡ l.fn.counts ++ map word_count l.commands
