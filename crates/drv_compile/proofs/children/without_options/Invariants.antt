use Rattle.drv_compile.proofs.children.without_options.Given as goal
use Rattle.drv_compile.specs.Machines.{without_options}
use Rattle.std.proofs.Common.{◌≡◌, drop}

abbrev pub invariant-loop-item : goal.invariant-loop-item
invariant-loop-item l = without_options l.row (drop l.item-index l.items) l.left ≡ without_options l.row l.items l.fn.text
