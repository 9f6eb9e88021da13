use Rattle.drv_cc.specs.Code.Building.{Zero, all_noted, count_shown, kinds_shown}
use Rattle.drv_cc.specs.SideFiles.{other_suffixes, sources, sources_from}
use Rattle.std.proofs.Common.{◌≡◌, drop}
use Rattle.drv_cc.proofs.sources.other_suffixes.Given as goal

-- Counting on from what was counted with what is left is counting all.
abbrev pub invariant-loop-item : goal.invariant-loop-item
invariant-loop-item l =
    all_noted (count_shown l.count) (other_suffixes (sources_from (kinds_shown l.kinds) l.language (drop l.item-index l.items)))
    ≡ all_noted Zero (other_suffixes (sources (kinds_shown l.kinds) l.items))
