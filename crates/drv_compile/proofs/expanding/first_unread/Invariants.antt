use Rattle.drv_compile.proofs.expanding.first_unread.Given as goal
use Rattle.drv_compile.specs.Words.{first_unread}
use Rattle.drv_system.specs.Asking.{Extends}
use Rattle.drv_system.specs.Code.Asked.{Asked}
use Rattle.drv_system.specs.Facts.{Facts}
use Rattle.std.proofs.Common.{◌≡◌, drop}

abbrev pub invariant-loop-word : goal.invariant-loop-word
invariant-loop-word g l = record {
  asks : Asked g.S.System.events l.fn.outside l.outside;
  rest : (F : Facts) → Extends l.outside.facts.now F → first_unread F (drop l.word-index l.words) ≡ first_unread F l.words;
}
