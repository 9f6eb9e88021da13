use Rattle.drv_cc.specs.Code.Looking.{words_for}
use Rattle.drv_cc.specs.Front.{named_folder}
use Rattle.std.proofs.Common.{◌≡◌, ◌++◌, map}
use Rattle.std.specs.List.{flat_map}
use Rattle.drv_cc.proofs.adding.add_path.Given as goal

abbrev pub invariant-loop-folder : goal.invariant-loop-folder
invariant-loop-folder l = l.words ≡ l.fn.words ++ flat_map (words_for l.looked_for)
    (map named_folder (map (λ folder. folder.now) l.yielded))
