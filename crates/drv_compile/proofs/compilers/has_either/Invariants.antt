use Rattle.drv_compile.proofs.compilers.has_either.Given as goal
use Rattle.drv_compile.specs.Code.CutLines.{begins_with, lines_from, size_left}
use Rattle.drv_compile.specs.Compilers.{lines}
use Rattle.std.proofs.Common.{◌≡◌}
use Rattle.std.specs.List.{list_any}
use Rattle.std.specs.Option.{option_map}

abbrev pub invariant-loop-left : goal.invariant-loop-left
invariant-loop-left l =
    list_any (begins_with l.one l.other) (lines_from (option_map (λ text. text.now) l.left))
    ≡ list_any (begins_with l.one l.other) (lines l.text)

abbrev pub decreases-loop-left : goal.decreases-loop-left
decreases-loop-left l = size_left (option_map (λ text. text.now) l.left)
