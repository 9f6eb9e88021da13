use Rattle.drv_dump.proofs.passed.pass_libraries.Given as goal
use Rattle.drv_dump.specs.Passed.{passed_dump_of, passed_entries}
use Rattle.std.proofs.Common.{◌≡◌, ◌++◌, Ok, drop}

abbrev pub invariant-loop-entry : goal.invariant-loop-entry
invariant-loop-entry l = Ok (l.texts ++ passed_entries (drop l.entry-index l.entry-items)) ≡ passed_dump_of l.fn.dump
