use Rattle.drv_place.proofs.lines.count_newlines.Given as goal
use Rattle.drv_specs.specs.Lines.{ends_line}
use Rattle.std.proofs.Common.{◌≡◌, ◌≤◌, ◌+◌, filter, length}

abbrev pub invariant-loop-rest : goal.invariant-loop-rest
invariant-loop-rest l = record {
  counted : l.count + length (filter ends_line l.left) ≡ length (filter ends_line l.bytes);
  room : l.count + length l.left ≤ length l.bytes;
}

abbrev pub decreases-loop-rest : goal.decreases-loop-rest
decreases-loop-rest l = length l.left
