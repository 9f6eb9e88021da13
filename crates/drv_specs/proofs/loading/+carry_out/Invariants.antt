use Rattle.drv_specs.specs.Directives.{read_settled}
use Rattle.drv_specs.specs.Loading.{all_carried, including}
use Rattle.drv_system.specs.Asking.{Extends}
use Rattle.drv_system.specs.Code.Asked.{Asked}
use Rattle.drv_system.specs.Facts.{Facts}
use Rattle.std.proofs.Common.{◌≡◌, length}
use Rattle.drv_specs.proofs.loading.+carry_out.Given as goal

-- the directives that are left, carried out on the set so far, give what all of them give; the call only asked
abbrev pub invariant-loop-directive : goal.invariant-loop-directive
invariant-loop-directive g l = record {
  asks : Asked g.S.System.events l.fn.outside l.outside;
  rest : (F : Facts) → Extends l.outside.facts.now F
      → all_carried (including F l.prefixes l.levels) (record { set = l.loading.set; files = l.loading.files }) l.reader
      ≡ all_carried (including F l.prefixes l.levels) (record { set = l.fn.loading.set; files = l.fn.loading.files }) (read_settled l.text);
}

-- each turn leaves fewer directives, so the loop ends
abbrev pub decreases-loop-directive : goal.decreases-loop-directive
decreases-loop-directive g l = length l.reader

-- an included file is one level deeper, so the calls end
abbrev pub decreases-carry_out : goal.decreases-carry_out
decreases-carry_out g l = l.levels
