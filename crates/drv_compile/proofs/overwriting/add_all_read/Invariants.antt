use Rattle.drv_compile.proofs.overwriting.add_all_read.Given as goal
use Rattle.drv_compile.specs.Overwriting.{read_or_left}
use Rattle.std.proofs.Common.{◌≡◌, ◌++◌, drop}
use Rattle.std.specs.List.{flat_map}

abbrev pub invariant-loop-name : goal.invariant-loop-name
invariant-loop-name l = l.files ++ flat_map read_or_left (drop l.name-index l.names) ≡ l.fn.files ++ flat_map read_or_left l.names
