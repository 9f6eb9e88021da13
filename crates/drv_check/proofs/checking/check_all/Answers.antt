use Rattle.drv_check.proofs.PiecesChecked.{name_done, names_kept}
use Rattle.drv_check.proofs.checking.check_all.Goals as goal
use Rattle.drv_check.specs.Checks.{all_called, is_full, most_faults}
use Rattle.drv_system.proofs.AskedCalls.{asked_further, extends_before}
use Rattle.std.proofs.Common.{◌∙◌, drop, sym}

pub returns-then-is_full-clause-checks : goal.returns-then-is_full-clause-checks
returns-then-is_full-clause-checks g c F e =
    sym (c.loop-name.invariant.rest F e)
    ∙ names_kept F c.args.search.now.prefixes.now (is_full most_faults) c.loop-name.checking (drop c.loop-name.name-index
    c.args.names.now)
    (sym c.is_full.ensures ∙ c.if-is_full.true)

-- The check goes on: one file more of the call was checked (`name_done`).
pub loop-name-preserved : goal.loop-name-preserved
loop-name-preserved g c = record {
  asks = asked_further c.loop-name.invariant.asks c.check_called.ensures.asks;
  rest = λ F e.
      name_done F c.args.search.now.prefixes.now (is_full most_faults) c.loop-name.checking c.check_called.new.checking
      c.args.names.now
      c.loop-name.name-index
      c.name-item.result
      (all_called F c.args.search.now.prefixes.now (is_full most_faults) c.args.checking.now c.args.names.now)
      c.loop-name-test.true c.name-item.is
      (sym c.is_full.ensures ∙ c.if-is_full.false)
      (c.in_ok-check_called.ensures.checks F e) (c.loop-name.invariant.rest F (extends_before c.check_called.ensures.asks e));
}
