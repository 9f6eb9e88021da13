use Rattle.drv_machine.proofs.placing.is_astray.Given as goal
use Rattle.drv_machine.specs.Traces.{is_placed}
use Rattle.std.proofs.Common.{drop, ◌≡◌}
use Rattle.std.specs.List.{list_any}
use Rattle.std.specs.Prelude.{not}

-- The loops of is_astray (src/placing.rt). Whether an origin of the words of a command is at no item.

-- no origin so far is: those that are left decide
abbrev pub invariant-loop-origin : goal.invariant-loop-origin
invariant-loop-origin l = list_any (λ origin. not (is_placed l.context l.run l.names origin)) (drop l.origin-index l.origins)
    ≡ list_any (λ origin. not (is_placed l.context l.run l.names origin)) l.origins
