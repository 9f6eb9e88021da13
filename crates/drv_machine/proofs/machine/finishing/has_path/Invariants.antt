use Rattle.drv_machine.proofs.machine.finishing.has_path.Given as goal
use Rattle.drv_machine.specs.Working.{is_among}
use Rattle.std.proofs.Common.{drop, map, ◌≡◌}

-- none of the names so far has this path: those that are left decide
abbrev pub invariant-loop-name : goal.invariant-loop-name
invariant-loop-name l = is_among (map (λ name. name.path) (drop l.name-index l.drawn)) l.path
    ≡ is_among (map (λ name. name.path) l.drawn) l.path
