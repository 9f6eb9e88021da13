use Rattle.drv_check.proofs.checking.check_all.Given as goal
use Rattle.drv_check.specs.Checks.{all_called, is_full, most_faults}
use Rattle.drv_system.specs.Asking.{Extends}
use Rattle.drv_system.specs.Code.Asked.{Asked}
use Rattle.drv_system.specs.Facts.{Facts}
use Rattle.std.proofs.Common.{◌≡◌, drop}

-- The files that are left, from the check so far, lead to the same end as all of them.
abbrev pub invariant-loop-name : goal.invariant-loop-name
invariant-loop-name g l = record {
  asks : Asked g.S.System.events l.fn.outside l.outside;
  rest : (F : Facts) → Extends l.outside.facts.now F
      → all_called F l.search.prefixes.now (is_full most_faults) l.checking (drop l.name-index l.names)
      ≡ all_called F l.search.prefixes.now (is_full most_faults) l.fn.checking
      l.names;
}
