use Rattle.drv_cc.proofs.targets.given_targets.Given as goal
use Rattle.drv_cc.specs.Children.{given_targets, line_targets}
use Rattle.std.proofs.Common.{◌≡◌, drop}

abbrev pub invariant-loop-item : goal.invariant-loop-item
invariant-loop-item l = line_targets l.targets (drop l.item-index l.items) ≡ given_targets l.items
