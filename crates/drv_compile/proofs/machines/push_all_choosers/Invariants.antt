use Rattle.drv_compile.proofs.machines.push_all_choosers.Given as goal
use Rattle.drv_compile.specs.Machines.{chooser_words}
use Rattle.std.specs.List.{flat_map}
use Rattle.std.proofs.Common.{◌≡◌, ◌++◌, drop}

abbrev pub invariant-loop-line : goal.invariant-loop-line
invariant-loop-line l =
    l.key ++ flat_map (chooser_words l.items) (drop l.line-index l.lines) ≡ l.fn.key ++ flat_map (chooser_words l.items) l.lines
