use Rattle.drv_compile.proofs.speaking.add_switches_lines.Given as goal
use Rattle.drv_compile.specs.Texts.{switches_line}
use Rattle.std.proofs.Common.{◌≡◌, ◌++◌, drop}
use Rattle.std.specs.List.{flat_map}

abbrev pub invariant-loop-variable : goal.invariant-loop-variable
invariant-loop-variable l = l.text ++ flat_map switches_line (drop l.variable-index l.children) ≡ l.fn.text
    ++ flat_map switches_line l.children
