use Rattle.drv_machine.proofs.machine.naming.last_drawn.Given as goal
use Rattle.drv_machine.specs.Temps.{last_drawn}
use Rattle.std.proofs.Common.{drop, length, ◌≡◌, ◌≤◌}
use Rattle.std.specs.Prelude.{None}

-- none of the names from the place that is reached on was drawn so: the code looks from the end
abbrev pub invariant-loop-i : goal.invariant-loop-i
invariant-loop-i l = record {
  within : l.i ≤ length l.drawn;
  none : last_drawn l.drawing l.suffix (drop l.i l.drawn) ≡ None;
}

-- each round looks at one name
abbrev pub decreases-loop-i : goal.decreases-loop-i
decreases-loop-i l = l.i
