use Rattle.drv_machine.proofs.placing.has_astray.Given as goal
use Rattle.drv_machine.specs.Traces.{is_astray}
use Rattle.std.proofs.Common.{drop, ◌≡◌}
use Rattle.std.specs.List.{list_any}

-- The loops of has_astray (src/placing.rt). Whether an origin of a trace is at no item.

-- no command so far has one: those that are left decide
abbrev pub invariant-loop-origins : goal.invariant-loop-origins
invariant-loop-origins l = list_any (is_astray l.context l.run l.names) (drop l.origins-index l.words)
    ≡ list_any (is_astray l.context l.run l.names) l.words
