use Rattle.drv_compile.proofs.reading.add_all.Given as goal
use Rattle.std.proofs.Common.{◌≡◌, ◌++◌, drop}

abbrev pub invariant-loop-name : goal.invariant-loop-name
invariant-loop-name l = l.named ++ drop l.name-index l.names ≡ l.fn.named ++ l.names
