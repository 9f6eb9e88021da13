use Rattle.drv_gcc.proofs.choices.push_for_machines.Given as goal
use Rattle.drv_gcc.specs.SpecFile.{for_machine}
use Rattle.std.specs.List.{flat_map}
use Rattle.std.proofs.Common.{◌≡◌, ◌++◌, drop}

abbrev pub invariant-loop-it : goal.invariant-loop-it
invariant-loop-it l = l.body ++ flat_map for_machine (drop l.it-index l.others) ≡ l.fn.body ++ flat_map for_machine l.others
