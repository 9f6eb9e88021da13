use Rattle.drv_gcc.proofs.composing.push_all_named.Given as goal
use Rattle.drv_gcc.specs.SpecFile.{named_text}
use Rattle.std.specs.List.{flat_map}
use Rattle.std.proofs.Common.{◌≡◌, ◌++◌, drop}

abbrev pub invariant-loop-it : goal.invariant-loop-it
invariant-loop-it l = l.text ++ flat_map named_text (drop l.it-index l.named) ≡ l.fn.text ++ flat_map named_text l.named
