use Rattle.drv_cc.specs.SideFiles.{inputs}
use Rattle.std.proofs.Common.{◌≡◌, ◌++◌, drop}
use Rattle.drv_cc.proofs.sources.inputs.Given as goal

abbrev pub invariant-loop-item : goal.invariant-loop-item
invariant-loop-item l = l.names ++ inputs (drop l.item-index l.items) ≡ inputs l.items
