use Rattle.drv_compile.proofs.speaking.add_lines.Given as goal
use Rattle.drv_compile.specs.Texts.{line_of}
use Rattle.std.proofs.Common.{◌≡◌, ◌++◌, drop}
use Rattle.std.specs.List.{flat_map}

abbrev pub invariant-loop-line : goal.invariant-loop-line
invariant-loop-line l = l.text ++ flat_map line_of (drop l.line-index l.lines) ≡ l.fn.text ++ flat_map line_of l.lines
