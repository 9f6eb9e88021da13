use Rattle.drv_cc.proofs.child_lines.told.Given as goal
use Rattle.drv_cc.specs.Children.{told}
use Rattle.std.proofs.Common.{◌≡◌, ◌++◌, drop}

abbrev pub invariant-loop-line : goal.invariant-loop-line
invariant-loop-line l = l.told ++ told (drop l.line-index l.lines) l.items ≡ told l.lines l.items
