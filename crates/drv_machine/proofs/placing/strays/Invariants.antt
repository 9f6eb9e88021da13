use Rattle.drv_machine.proofs.placing.strays.Given as goal
use Rattle.drv_machine.specs.Traces.{is_astray}
use Rattle.std.proofs.Common.{drop, ◌≡◌}
use Rattle.std.specs.List.{list_any}

-- The loops of strays (src/placing.rt). Whether an origin of a trace is at no item.

-- no command so far has one: those that are left decide
abbrev pub invariant-loop-words : goal.invariant-loop-words
invariant-loop-words l = list_any (list_any (is_astray l.context l.run l.names)) (drop l.words-index l.commands)
    ≡ list_any (list_any (is_astray l.context l.run l.names)) l.commands
