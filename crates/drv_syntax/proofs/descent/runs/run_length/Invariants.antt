use Rattle.drv_syntax.proofs.descent.runs.run_length.Given as goal
use Rattle.drv_syntax.specs.Code.Runs.{in_run}
use Rattle.std.proofs.Common.{◌≡◌, ◌≤◌, ◌+◌, ◌-◌, drop, length}
use Rattle.std.specs.List.{prefix_len}

-- the bytes of the run that are passed and those at the front of what is left are all
abbrev pub invariant-loop-length : goal.invariant-loop-length
invariant-loop-length l = record {
  same : l.length + prefix_len (in_run l.kind) (drop l.length l.text)
      ≡ prefix_len (in_run l.kind) l.text;
  within : l.length ≤ length l.text;
}

-- each round passes a byte of the text
abbrev pub decreases-loop-length : goal.decreases-loop-length
decreases-loop-length l = length l.text - l.length
