use Rattle.drv_run.proofs.deciding.load_files.Given as goal
use Rattle.drv_run.specs.Drives.{files_loaded}
use Rattle.drv_system.specs.Asking.{Extends}
use Rattle.drv_system.specs.Code.Asked.{Asked}
use Rattle.drv_system.specs.Facts.{Facts}
use Rattle.std.proofs.Common.{◌≡◌, drop}

-- the set so far, with the files that are left, gives what all files give; the call only asked
abbrev pub invariant-loop-name : goal.invariant-loop-name
invariant-loop-name g l = record {
  asks : Asked g.S.System.events l.fn.outside l.outside;
  rest : (F : Facts) → Extends l.outside.facts.now F
      → files_loaded F l.prefixes l.loaded (drop l.name-index l.names) ≡ files_loaded F l.prefixes l.fn.set l.names;
}
