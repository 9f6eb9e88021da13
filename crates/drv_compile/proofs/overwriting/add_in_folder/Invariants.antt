use Rattle.drv_compile.proofs.overwriting.add_in_folder.Given as goal
use Rattle.drv_compile.specs.Overwriting.{in_folder}
use Rattle.std.proofs.Common.{◌≡◌, ◌++◌, drop, map}

abbrev pub invariant-loop-name : goal.invariant-loop-name
invariant-loop-name l = l.paths ++ map (in_folder l.folder) (drop l.name-index l.names) ≡ l.fn.paths ++ map (in_folder l.folder) l.names
