use Rattle.drv_dump.proofs.dump.entries.Given as goal
use Rattle.drv_dump.specs.Dumps.{entries_from, entries_of}
use Rattle.std.proofs.Common.{◌≡◌, drop}

abbrev pub invariant-loop-at : goal.invariant-loop-at
invariant-loop-at l = entries_from l.reader l.at (drop l.at l.dump) ≡ entries_of l.fn.dump
