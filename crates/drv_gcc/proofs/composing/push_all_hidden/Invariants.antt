use Rattle.drv_gcc.proofs.composing.push_all_hidden.Given as goal
use Rattle.drv_gcc.specs.SpecFile.{hidden_folder}
use Rattle.std.specs.List.{flat_map}
use Rattle.std.proofs.Common.{◌≡◌, ◌++◌, drop}

abbrev pub invariant-loop-folder : goal.invariant-loop-folder
invariant-loop-folder l = l.body ++ flat_map hidden_folder (drop l.folder-index l.folders) ≡ l.fn.body ++ flat_map hidden_folder l.folders
