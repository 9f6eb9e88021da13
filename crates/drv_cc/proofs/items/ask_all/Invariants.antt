use Rattle.drv_cc.specs.Code.Known.{again}
use Rattle.std.proofs.Common.{map, take, drop, ◌++◌, ◌≡◌}
use Rattle.drv_cc.proofs.items.ask_all.Given as goal

abbrev pub invariant-loop-item : goal.invariant-loop-item
invariant-loop-item l =
    take l.item-index l.items ++ map (again l.known) (drop l.item-index l.items) ≡ map (again l.known) l.fn.items
