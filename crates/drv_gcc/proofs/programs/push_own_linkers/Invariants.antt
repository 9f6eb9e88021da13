use Rattle.drv_gcc.proofs.programs.push_own_linkers.Given as goal
use Rattle.drv_gcc.specs.SpecFile.{own_linker}
use Rattle.std.specs.List.{flat_map}
use Rattle.std.proofs.Common.{◌≡◌, ◌++◌, drop}

abbrev pub invariant-loop-it : goal.invariant-loop-it
invariant-loop-it l = l.body ++ flat_map own_linker (drop l.it-index l.linkers) ≡ l.fn.body ++ flat_map own_linker l.linkers
