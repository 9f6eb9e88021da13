use Rattle.drv_compile.proofs.overwriting.add_side_files.Given as goal
use Rattle.drv_compile.specs.Overwriting.{side_file}
use Rattle.std.proofs.Common.{◌≡◌, ◌++◌, drop}
use Rattle.std.specs.List.{filter_map}

abbrev pub invariant-loop-item : goal.invariant-loop-item
invariant-loop-item l = l.names ++ filter_map side_file (drop l.item-index l.items) ≡ l.fn.names ++ filter_map side_file l.items
