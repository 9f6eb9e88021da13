use Rattle.std.proofs.Common.{◌≡◌, ◌++◌, drop, map}
use Rattle.drv_search.proofs.prefixes.push_folders.Given as goal

-- the prefixes so far, with the folders that are left, are those before and all folders
abbrev pub invariant-loop-folder : goal.invariant-loop-folder
invariant-loop-folder l = l.prefixes ++ map (λ folder. folder.now) (drop l.folder-index l.folders) ≡ l.fn.prefixes
    ++ map (λ folder. folder.now) l.folders
