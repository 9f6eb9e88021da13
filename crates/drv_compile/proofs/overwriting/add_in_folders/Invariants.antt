use Rattle.drv_compile.proofs.overwriting.add_in_folders.Given as goal
use Rattle.drv_compile.specs.Overwriting.{in_folder}
use Rattle.std.proofs.Common.{◌≡◌, ◌++◌, drop, map}
use Rattle.std.specs.List.{flat_map}

abbrev pub invariant-loop-folder : goal.invariant-loop-folder
invariant-loop-folder l =
    l.paths ++ flat_map (λ folder. map (in_folder folder) l.names) (drop l.folder-index l.folders)
    ≡ l.fn.paths ++ flat_map (λ folder. map (in_folder folder) l.names) l.folders
