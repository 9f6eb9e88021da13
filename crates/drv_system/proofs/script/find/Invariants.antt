use Rattle.std.proofs.Common.{◌≡◌, drop, nat_eq}
use Rattle.std.specs.Cmp.Lexicographic.{pointwise}
use Rattle.std.specs.Map.{lookup}
use Rattle.drv_system.proofs.script.find.Given as goal

-- a look-up in the items that are left gives what one in the whole list gives
abbrev pub invariant-loop-item : goal.invariant-loop-item
invariant-loop-item g l = lookup (pointwise nat_eq l.key) (drop l.item-index l.list) ≡ lookup (pointwise nat_eq l.key) l.fn.list
