use Rattle.drv_cc.specs.Code.Building.{pair_shown}
use Rattle.drv_cc.specs.Items.{is_longer}
use Rattle.drv_cc.specs.Table.{renames}
use Rattle.std.proofs.Common.{◌≡◌, drop, find, map}
use Rattle.drv_cc.proofs.renaming.rename_of.Given as goal

abbrev pub invariant-loop-rename : goal.invariant-loop-rename
invariant-loop-rename l = find (is_longer l.word) (map pair_shown (drop l.rename-index l.rename-items)) ≡ find (is_longer l.word) renames
