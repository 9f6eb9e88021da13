use Rattle.drv_compile.proofs.reading.folders_given.Given as goal
use Rattle.drv_compile.specs.Reading.{folders_given}
use Rattle.std.proofs.Common.{◌≡◌, ◌++◌, drop}

abbrev pub invariant-loop-item : goal.invariant-loop-item
invariant-loop-item l = l.folders ++ folders_given (drop l.item-index l.items) ≡ folders_given l.items
