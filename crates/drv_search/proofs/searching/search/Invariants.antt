use Rattle.drv_search.specs.Search.{candidates, found}
use Rattle.drv_system.specs.Asking.{Extends}
use Rattle.drv_system.specs.Code.Asked.{Asked}
use Rattle.drv_system.specs.Facts.{Facts}
use Rattle.std.proofs.Common.{◌≡◌, drop}
use Rattle.drv_search.proofs.searching.search.Given as goal

-- a search under the prefixes that are left gives what one under all gives, and the call only asked
abbrev pub invariant-loop-prefix : goal.invariant-loop-prefix
invariant-loop-prefix g l = record {
  asks : Asked g.S.System.events l.fn.outside l.outside;
  rest : (F : Facts) → Extends l.outside.facts.now F → found F (candidates (drop l.prefix-index l.prefixes) l.name)
      ≡ found F (candidates l.prefixes l.name);
}
