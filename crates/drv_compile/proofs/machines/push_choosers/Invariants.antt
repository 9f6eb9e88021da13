use Rattle.drv_compile.proofs.machines.push_choosers.Given as goal
use Rattle.drv_compile.specs.Machines.{chooser_word}
use Rattle.std.specs.List.{flat_map}
use Rattle.std.proofs.Common.{◌≡◌, ◌++◌, drop}

abbrev pub invariant-loop-item : goal.invariant-loop-item
invariant-loop-item l =
    l.key ++ flat_map (chooser_word l.line) (drop l.item-index l.items) ≡ l.fn.key ++ flat_map (chooser_word l.line) l.items
