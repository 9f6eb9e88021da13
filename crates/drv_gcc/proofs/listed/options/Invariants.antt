use Rattle.drv_gcc.proofs.listed.options.Given as goal
use Rattle.drv_gcc.specs.Answers.{option_in}
use Rattle.std.specs.List.{flat_map}
use Rattle.std.proofs.Common.{◌≡◌, map}

abbrev pub invariant-loop-line : goal.invariant-loop-line
invariant-loop-line l = l.found ≡ flat_map option_in (map (λ line. line.now) l.yielded)
