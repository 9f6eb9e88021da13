use Rattle.drv_cc.specs.Code.Building.{all_counted, count_of, count_shown, kinds_shown}
use Rattle.drv_cc.specs.SideFiles.{sources, sources_from}
use Rattle.std.proofs.Common.{◌≡◌, drop}
use Rattle.drv_cc.proofs.sources.sources.Given as goal

abbrev pub invariant-loop-item : goal.invariant-loop-item
invariant-loop-item l = all_counted (count_shown l.count) (sources_from (kinds_shown l.kinds) l.language (drop l.item-index l.items))
    ≡ count_of (sources (kinds_shown l.kinds) l.items)
