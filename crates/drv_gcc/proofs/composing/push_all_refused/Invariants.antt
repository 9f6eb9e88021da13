use Rattle.drv_gcc.proofs.composing.push_all_refused.Given as goal
use Rattle.drv_gcc.specs.SpecFile.{refused_option}
use Rattle.std.specs.List.{flat_map}
use Rattle.std.proofs.Common.{◌≡◌, ◌++◌, drop}

abbrev pub invariant-loop-option : goal.invariant-loop-option
invariant-loop-option l = l.body ++ flat_map refused_option (drop l.option-index l.options) ≡ l.fn.body ++ flat_map refused_option l.options
