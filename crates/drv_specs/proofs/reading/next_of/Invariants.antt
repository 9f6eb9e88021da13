use Rattle.drv_specs.proofs.reading.next_of.Given as goal
use Rattle.drv_specs.specs.Code.Slices.{directives_left, size_left}
use Rattle.std.proofs.Common.{◌≡◌, ◌≤◌, ◌+◌}

-- the lines that were passed have no directive
abbrev pub invariant-loop-left : goal.invariant-loop-left
invariant-loop-left l = record {
  directives : directives_left l.lines ≡ directives_left l.left;
  room : l.left.number + size_left l.left ≤ l.lines.number + size_left l.lines;
}

-- each turn leaves fewer bytes, so the loop ends
abbrev pub decreases-loop-left : goal.decreases-loop-left
decreases-loop-left l = size_left l.left
