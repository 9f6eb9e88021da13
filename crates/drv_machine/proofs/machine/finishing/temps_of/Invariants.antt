use Rattle.drv_machine.proofs.machine.finishing.temps_of.Given as goal
use Rattle.std.proofs.Common.{map, ◌≡◌}

-- the temporaries so far are those of the names so far
abbrev pub invariant-loop-name : goal.invariant-loop-name
invariant-loop-name l = l.temps ≡ map (λ name. record { path = name.path; contents = name.contents }) l.yielded
