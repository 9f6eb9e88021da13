use Rattle.drv_machine.proofs.Finished.{others_than}
use Rattle.drv_machine.proofs.machine.finishing.once.Given as goal
use Rattle.drv_machine.specs.Outcome.{once}
use Rattle.std.proofs.Common.{List, ◌≡◌, ◌++◌, ℕ}

-- the files kept are those so far, each once; what is left adds those that aren't kept yet
abbrev pub invariant-loop-file : goal.invariant-loop-file
invariant-loop-file l = (rest : List (List ℕ)) → once (l.yielded ++ rest) ≡ l.kept ++ others_than l.kept (once rest)
