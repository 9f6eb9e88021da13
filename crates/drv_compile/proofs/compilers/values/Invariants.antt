use Rattle.drv_compile.specs.Code.CutLines.{lines_from, size_left}
use Rattle.drv_compile.specs.Compilers.{value_in, values}
use Rattle.std.proofs.Common.{◌≡◌, ◌++◌}
use Rattle.std.specs.List.{flat_map}
use Rattle.std.specs.Option.{option_map}
use Rattle.drv_compile.proofs.compilers.values.Given as goal

abbrev pub invariant-loop-left : goal.invariant-loop-left
invariant-loop-left l = l.found ++ flat_map (value_in l.key) (lines_from (option_map (λ text. text.now) l.left)) ≡ values l.key l.text

abbrev pub decreases-loop-left : goal.decreases-loop-left
decreases-loop-left l = size_left (option_map (λ text. text.now) l.left)
