use Rattle.drv_cc.proofs.environment.add_own.Given as goal
use Rattle.drv_cc.specs.Front.{variable}
use Rattle.std.proofs.Common.{◌≡◌, ◌++◌, drop, map}

abbrev pub invariant-loop-value : goal.invariant-loop-value
invariant-loop-value l = l.children ++ map (λ value. variable l.name (l.before ++ value)) (drop l.value-index l.value-items) ≡ l.fn.children
    ++ map (λ value. variable l.name (l.before ++ value)) l.value-items
