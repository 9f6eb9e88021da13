use Rattle.drv_gcc.proofs.hiding.push_all_there.Given as goal
use Rattle.drv_gcc.specs.SpecFile.{there_tests}
use Rattle.std.specs.List.{flat_map}
use Rattle.std.proofs.Common.{◌≡◌, ◌++◌, drop}

abbrev pub invariant-loop-it : goal.invariant-loop-it
invariant-loop-it l = l.body ++ flat_map there_tests (drop l.it-index l.texts) ≡ l.fn.body ++ flat_map there_tests l.texts
