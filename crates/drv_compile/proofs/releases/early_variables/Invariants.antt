use Rattle.drv_compile.proofs.releases.early_variables.Given as goal
use Rattle.drv_compile.specs.Releases.{early_variable}
use Rattle.std.proofs.Common.{◌≡◌, ◌++◌, drop, map}

abbrev pub invariant-loop-variable : goal.invariant-loop-variable
invariant-loop-variable l = l.made ++ map early_variable (drop l.variable-index l.children) ≡ map early_variable l.children
