use Rattle.drv_compile.proofs.compilers.first_line.Given as goal
use Rattle.drv_compile.specs.Code.CutLines.{lines_from, size_left}
use Rattle.drv_compile.specs.Compilers.{lines}
use Rattle.std.proofs.Common.{◌≡◌, find, nat_eq}
use Rattle.std.specs.List.{starts_with}
use Rattle.std.specs.Option.{option_map}

abbrev pub invariant-loop-left : goal.invariant-loop-left
invariant-loop-left l =
    find (λ line. starts_with nat_eq line l.key) (lines_from (option_map (λ text. text.now) l.left))
    ≡ find (λ line. starts_with nat_eq line l.key) (lines l.text)

abbrev pub decreases-loop-left : goal.decreases-loop-left
decreases-loop-left l = size_left (option_map (λ text. text.now) l.left)
