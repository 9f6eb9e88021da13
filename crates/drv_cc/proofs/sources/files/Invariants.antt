use Rattle.drv_cc.specs.Code.Building.{all_counted, count_of, count_shown}
use Rattle.drv_cc.specs.SideFiles.{files}
use Rattle.std.proofs.Common.{◌≡◌, drop}
use Rattle.drv_cc.proofs.sources.files.Given as goal

abbrev pub invariant-loop-item : goal.invariant-loop-item
invariant-loop-item l = all_counted (count_shown l.count) (files (drop l.item-index l.items)) ≡ count_of (files l.items)
