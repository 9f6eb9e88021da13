use Rattle.drv_dump.proofs.our_dump.translate_dump.Given as goal
use Rattle.drv_dump.specs.OurDump.{our_dump_of, with_entries}
use Rattle.std.proofs.Common.{◌≡◌, Ok, drop}

abbrev pub invariant-loop-entry : goal.invariant-loop-entry
invariant-loop-entry l = Ok (with_entries l.ours (drop l.entry-index l.entry-items)) ≡ our_dump_of l.fn.dump
