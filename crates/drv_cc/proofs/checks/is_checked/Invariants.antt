use Rattle.drv_cc.specs.Levels.{checked_from, is_checked}
use Rattle.std.proofs.Common.{◌≡◌, drop}
use Rattle.drv_cc.proofs.checks.is_checked.Given as goal

abbrev pub invariant-loop-item : goal.invariant-loop-item
invariant-loop-item l = checked_from l.checked l.check (drop l.item-index l.items) ≡ is_checked l.items l.check
