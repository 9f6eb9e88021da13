use Rattle.drv_cc.specs.Code.Building.{kinds_shown}
use Rattle.drv_cc.specs.Front.{with_end}
use Rattle.drv_cc.specs.SideFiles.{sources, sources_from}
use Rattle.std.proofs.Common.{◌≡◌, ◌++◌, drop, map}
use Rattle.drv_cc.proofs.outputs.source_outputs.Given as goal

-- The outputs so far, with those of the sources that are left, are all.
abbrev pub invariant-loop-item : goal.invariant-loop-item
invariant-loop-item l =
    l.names ++ map (with_end l.end) (sources_from (kinds_shown l.kinds) l.language (drop l.item-index l.items))
    ≡ map (with_end l.end) (sources (kinds_shown l.kinds) l.items)
