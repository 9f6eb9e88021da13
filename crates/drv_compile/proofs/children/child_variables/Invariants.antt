use Rattle.drv_compile.proofs.children.child_variables.Given as goal
use Rattle.drv_compile.specs.Machines.{child_variable}
use Rattle.std.proofs.Common.{◌≡◌, ◌++◌, drop, map}

abbrev pub invariant-loop-variable : goal.invariant-loop-variable
invariant-loop-variable l = l.made ++ map (child_variable l.items l.row) (drop l.variable-index l.children)
    ≡ map (child_variable l.items l.row) l.children
