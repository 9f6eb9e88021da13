use Rattle.drv_check.proofs.checking.+check_file.Given as goal
use Rattle.drv_check.specs.Checks.{enters_at, file_checked, is_full, most_faults, pieces_checked}
use Rattle.drv_system.specs.Asking.{Extends}
use Rattle.drv_system.specs.Code.Asked.{Asked}
use Rattle.drv_system.specs.Facts.{Facts}
use Rattle.std.proofs.Common.{◌≡◌, drop}

-- The pieces that are left, from the check so far, give what the whole file gives.
abbrev pub invariant-loop-piece : goal.invariant-loop-piece
invariant-loop-piece g l = record {
  asks : Asked g.S.System.events l.fn.outside l.outside;
  rest : (F : Facts) → Extends l.outside.facts.now F
      → pieces_checked F l.search.prefixes.now (is_full most_faults) l.levels (enters_at F l.search.prefixes.now
      (is_full most_faults) l.levels) l.checking l.file (drop l.piece-index
      l.file.pieces)
      ≡ file_checked F l.search.prefixes.now (is_full most_faults) l.levels l.fn.checking l.file;
}

abbrev pub decreases-check_file : goal.decreases-check_file
decreases-check_file g l = l.levels
