use Rattle.drv_compile.proofs.languages.first_unserved.Given as goal
use Rattle.drv_compile.specs.Languages.{first_unserved}
use Rattle.std.proofs.Common.{◌≡◌, drop}

abbrev pub invariant-loop-input : goal.invariant-loop-input
invariant-loop-input l = first_unserved l.set (drop l.input-index l.inputs) ≡ first_unserved l.set l.inputs
