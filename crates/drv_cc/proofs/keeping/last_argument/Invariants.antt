use Rattle.drv_cc.specs.Kept.{last_argument, last_from}
use Rattle.std.proofs.Common.{◌≡◌, drop}
use Rattle.std.specs.Option.{option_map}
use Rattle.drv_cc.proofs.keeping.last_argument.Given as goal

abbrev pub invariant-loop-item : goal.invariant-loop-item
invariant-loop-item l = last_from (option_map (λ argument. argument.now) l.found) l.name (drop l.item-index l.items)
    ≡ last_argument l.name l.items
