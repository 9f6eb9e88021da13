use Rattle.drv_machine.proofs.emitting.put_switches.Given as goal
use Rattle.drv_machine.specs.Code.ByKind.{put_at}
use Rattle.drv_machine.specs.Code.Running.{reached, run}
use Rattle.drv_machine.specs.Working.{puts}
use Rattle.drv_system.specs.Asking.{Extends}
use Rattle.drv_system.specs.Code.Asked.{Asked}
use Rattle.drv_system.specs.Facts.{Facts}
use Rattle.std.proofs.Common.{◌≡◌, drop, ℕ}

-- putting the switches that are left gives what putting all would have given
abbrev pub invariant-loop-place : goal.invariant-loop-place
invariant-loop-place g l = record {
  asks : Asked g.S.System.events l.fn.outside l.outside;
  left : (n : ℕ) (F : Facts) → Extends l.outside.facts.now F
      → run F l.context (reached n l.machine) (puts (put_at F l.context (drop l.place-index l.places)))
      ≡ run F l.context (reached n l.fn.machine) (puts (put_at F l.context l.places));
}
