use Rattle.drv_search.proofs.Options.{after_options}
use Rattle.drv_search.specs.Search.{folders_under, options_for}
use Rattle.drv_system.specs.Asking.{Extends}
use Rattle.drv_system.specs.Code.Asked.{Asked}
use Rattle.drv_system.specs.Facts.{Facts}
use Rattle.std.proofs.Common.{◌≡◌, drop, flat_map}
use Rattle.drv_search.proofs.folders.push_all.Given as goal

-- the options so far, with those of the prefixes that are left, are all, and the call only asked
abbrev pub invariant-loop-prefix : goal.invariant-loop-prefix
invariant-loop-prefix g l = record {
  asks : Asked g.S.System.events l.fn.outside l.outside;
  rest : (F : Facts) → Extends l.outside.facts.now F
      → after_options l.options (options_for F (flat_map folders_under (drop l.prefix-index l.prefixes))) ≡ after_options l.fn.options
      (options_for F (flat_map folders_under l.prefixes));
}
