use Rattle.drv_cc.proofs.environment.own_values.Given as goal
use Rattle.drv_cc.specs.Children.{value_in}
use Rattle.std.proofs.Common.{◌≡◌, ◌++◌, drop}
use Rattle.std.specs.List.{flat_map}

abbrev pub invariant-loop-text : goal.invariant-loop-text
invariant-loop-text l = l.values ++ flat_map (value_in l.key) (drop l.text-index l.told) ≡ flat_map (value_in l.key) l.told
