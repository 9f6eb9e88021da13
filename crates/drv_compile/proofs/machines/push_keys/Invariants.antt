use Rattle.drv_compile.proofs.machines.push_keys.Given as goal
use Rattle.drv_compile.specs.Machines.{key_word}
use Rattle.std.specs.List.{flat_map}
use Rattle.std.proofs.Common.{◌≡◌, ◌++◌, drop}

abbrev pub invariant-loop-item : goal.invariant-loop-item
invariant-loop-item l = l.key ++ flat_map key_word (drop l.item-index l.items) ≡ l.fn.key ++ flat_map key_word l.items
