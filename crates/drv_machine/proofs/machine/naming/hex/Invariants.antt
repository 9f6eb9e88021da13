use Rattle.drv_machine.proofs.machine.naming.hex.Given as goal
use Rattle.drv_machine.specs.Temps.{hex}
use Rattle.std.proofs.Common.{drop, length, ◌≡◌, ◌++◌, ◌≤◌}

-- the digits from the place that is reached on are the last ones of the number; the rest has those before
abbrev pub invariant-loop-at : goal.invariant-loop-at
invariant-loop-at l = record {
  within : l.at ≤ 8;
  long : length l.digits ≡ 8;
  same : hex l.at l.rest ++ drop l.at l.digits ≡ hex 8 l.number;
}

-- each round writes a digit
abbrev pub decreases-loop-at : goal.decreases-loop-at
decreases-loop-at l = l.at
