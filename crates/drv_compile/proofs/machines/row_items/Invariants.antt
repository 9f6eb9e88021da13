use Rattle.drv_compile.proofs.machines.row_items.Given as goal
use Rattle.drv_compile.specs.Machines.{word_items}
use Rattle.std.specs.List.{flat_map}
use Rattle.std.proofs.Common.{◌≡◌, map}

abbrev pub invariant-loop-word : goal.invariant-loop-word
invariant-loop-word l = l.items ≡ flat_map word_items (map (λ word. word.now) l.yielded)
