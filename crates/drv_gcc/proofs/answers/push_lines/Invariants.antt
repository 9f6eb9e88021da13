use Rattle.drv_gcc.proofs.answers.push_lines.Given as goal
use Rattle.drv_gcc.specs.Answers.{line_of}
use Rattle.std.specs.List.{flat_map}
use Rattle.std.proofs.Common.{◌≡◌, ◌++◌, drop}

abbrev pub invariant-loop-value : goal.invariant-loop-value
invariant-loop-value l = l.text ++ flat_map (line_of l.key) (drop l.value-index l.values) ≡ l.fn.text ++ flat_map (line_of l.key) l.values
