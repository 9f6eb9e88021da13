use Rattle.drv_compile.proofs.Names.{after_names}
use Rattle.drv_compile.proofs.reading.files_names.Given as goal
use Rattle.drv_compile.specs.Reading.{files_names}
use Rattle.drv_system.specs.Asking.{Extends}
use Rattle.drv_system.specs.Code.Asked.{Asked}
use Rattle.drv_system.specs.Facts.{Facts}
use Rattle.std.proofs.Common.{◌≡◌, drop}

-- The names so far, with those of the files left, are those of all.
abbrev pub invariant-loop-file : goal.invariant-loop-file
invariant-loop-file g l = record {
  asks : Asked g.S.System.events l.fn.outside l.outside;
  rest : (F : Facts) → Extends l.outside.facts.now F
      → after_names l.named (files_names F l.prefixes (drop l.file-index l.files)) ≡ files_names F l.prefixes l.files;
}
