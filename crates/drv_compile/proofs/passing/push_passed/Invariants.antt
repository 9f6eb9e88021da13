use Rattle.drv_compile.proofs.passing.push_passed.Given as goal
use Rattle.drv_compile.specs.Passed.{passed_switch}
use Rattle.std.proofs.Common.{◌≡◌, ◌++◌, drop, map}

abbrev pub invariant-loop-library : goal.invariant-loop-library
invariant-loop-library l =
    l.items ++ map passed_switch (drop l.library-index l.libraries) ≡ l.fn.items ++ map passed_switch l.libraries
