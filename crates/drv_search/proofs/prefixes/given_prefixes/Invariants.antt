use Rattle.drv_search.proofs.Candidates.{after_prefixes}
use Rattle.drv_search.specs.Search.{given_of}
use Rattle.drv_system.specs.Asking.{Extends}
use Rattle.drv_system.specs.Code.Asked.{Asked}
use Rattle.drv_system.specs.Facts.{Facts}
use Rattle.std.proofs.Common.{◌≡◌, drop}
use Rattle.drv_search.proofs.prefixes.given_prefixes.Given as goal

-- the prefixes so far, with those of the arguments that are left, are all, and the call only asked
abbrev pub invariant-loop-dir : goal.invariant-loop-dir
invariant-loop-dir g l = record {
  asks : Asked g.S.System.events l.fn.outside l.outside;
  rest : (F : Facts) → Extends l.outside.facts.now F → after_prefixes l.given (given_of F (drop l.dir-index l.dirs)) ≡ given_of F l.dirs;
}
