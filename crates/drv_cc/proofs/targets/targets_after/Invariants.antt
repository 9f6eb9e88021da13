use Rattle.drv_cc.proofs.targets.targets_after.Given as goal
use Rattle.drv_cc.specs.Children.{targets_after}
use Rattle.std.proofs.Common.{◌≡◌, drop}

abbrev pub invariant-loop-name : goal.invariant-loop-name
invariant-loop-name l = targets_after l.after (drop l.name-index l.names) ≡ targets_after l.fn.targets l.names
