use Rattle.drv_compile.proofs.overwriting.add_files.Given as goal
use Rattle.drv_compile.specs.Overwriting.{file_read}
use Rattle.std.proofs.Common.{◌≡◌, ◌++◌, drop, map}

abbrev pub invariant-loop-name : goal.invariant-loop-name
invariant-loop-name l = l.files ++ map (file_read l.read_as) (drop l.name-index l.names) ≡ l.fn.files ++ map (file_read l.read_as) l.names
