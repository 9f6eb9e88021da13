use Rattle.drv_machine.proofs.machine.finishing.has_long_pipe.Given as goal
use Rattle.drv_machine.specs.Outcome.{most_piped}
use Rattle.std.proofs.Common.{drop, length, ◌≡◌}
use Rattle.std.specs.List.{list_any}
use Rattle.std.specs.Prelude.{nat_lt}

-- no group so far has too many commands: those that are left decide
abbrev pub invariant-loop-group : goal.invariant-loop-group
invariant-loop-group l = list_any (λ group. nat_lt most_piped (length group)) (drop l.group-index l.groups)
    ≡ list_any (λ group. nat_lt most_piped (length group)) l.groups
