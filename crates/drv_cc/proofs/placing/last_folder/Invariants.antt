use Rattle.drv_cc.proofs.placing.last_folder.Given as goal
use Rattle.drv_cc.specs.SideFiles.{given_from}
use Rattle.std.proofs.Common.{◌≡◌, drop}
use Rattle.std.specs.Option.{option_map}
use Rattle.std.specs.Prelude.{None}

abbrev pub invariant-loop-item : goal.invariant-loop-item
invariant-loop-item l = given_from l.own (option_map (λ folder. folder.now) l.given) (drop l.item-index l.items)
    ≡ given_from l.own None l.items
