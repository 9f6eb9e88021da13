use Rattle.drv_cc.proofs.environment.push_folders.Given as goal
use Rattle.drv_cc.specs.Children.{folder_text}
use Rattle.std.proofs.Common.{◌≡◌, ◌++◌, drop}
use Rattle.std.specs.List.{flat_map}

abbrev pub invariant-loop-folder : goal.invariant-loop-folder
invariant-loop-folder l = l.path ++ flat_map folder_text (drop l.folder-index l.folders) ≡ l.fn.path ++ flat_map folder_text l.folders
