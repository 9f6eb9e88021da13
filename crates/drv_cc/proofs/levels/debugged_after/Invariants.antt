use Rattle.drv_cc.specs.Levels.{debugging_of}
use Rattle.std.proofs.Common.{◌≡◌, drop}
use Rattle.drv_cc.proofs.levels.debugged_after.Given as goal

abbrev pub invariant-loop-item : goal.invariant-loop-item
invariant-loop-item l = debugging_of l.so_far (drop l.item-index l.items) ≡ debugging_of l.fn.before l.items
