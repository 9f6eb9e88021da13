use Rattle.drv_machine.proofs.machine.finishing.groups_of.Given as goal
use Rattle.drv_machine.specs.Code.Grouping.{grouped}
use Rattle.drv_machine.specs.Cutting.{NamedLine}
use Rattle.drv_machine.specs.Outcome.{groups}
use Rattle.drv_system.specs.Asking.{Extends}
use Rattle.drv_system.specs.Code.Asked.{Asked}
use Rattle.drv_system.specs.Facts.{Facts}
use Rattle.std.proofs.Common.{List, ◌≡◌, ◌++◌}

-- the groups that have ended, the one that is begun and those of the lines that are left are the groups of all lines
abbrev pub invariant-loop-line : goal.invariant-loop-line
invariant-loop-line g l = record {
  asks : Asked g.S.System.events l.fn.outside l.outside;
  made : (F : Facts) → Extends l.outside.facts.now F → (rest : List NamedLine)
      → groups F l.context (l.yielded ++ rest) ≡ grouped l.grouping.ended l.grouping.begun.items (groups F l.context rest);
}
