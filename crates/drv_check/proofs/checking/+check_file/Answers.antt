use Rattle.drv_check.proofs.PiecesChecked.{begins, enters, piece_gone, pieces_kept}
use Rattle.drv_check.proofs.checking.+check_file.Goals as goal
use Rattle.drv_check.specs.Checks.{entered, enters_at, file_checked, is_full, most_faults}
use Rattle.drv_system.proofs.AskedCalls.{asked_further, asked_none, extends_before}
use Rattle.std.proofs.Common.{◌∙◌, ap, drop, sym}

pub loop-piece-init : goal.loop-piece-init
loop-piece-init g t c = record {
  asks = asked_none c.args.outside.now;
  rest = λ F e. begins F c.args.search.now.prefixes.now (is_full most_faults) c.args.levels c.args.checking.now
      c.args.file.now;
}

pub returns-then-is_full-clause-checks : goal.returns-then-is_full-clause-checks
returns-then-is_full-clause-checks g t c F e =
    sym (c.loop-piece.invariant.rest F e)
    ∙ pieces_kept F c.args.search.now.prefixes.now (is_full most_faults) c.args.levels (enters_at F
    c.args.search.now.prefixes.now (is_full most_faults) c.args.levels)
    c.loop-piece.checking c.args.file.now
    (drop c.loop-piece.piece-index c.args.file.now.pieces) (sym c.is_full.ensures ∙ c.if-is_full.true)

pub returns-in_err-next-clause-asks : goal.returns-in_err-next-clause-asks
returns-in_err-next-clause-asks g t c = asked_further c.loop-piece.invariant.asks c.step.ensures.asks

pub returns-in_err-check_file-clause-asks : goal.returns-in_err-check_file-clause-asks
returns-in_err-check_file-clause-asks g t c = asked_further c.loop-piece.invariant.asks
    (asked_further c.step.ensures.asks c.check_file.ensures.asks)

-- The check goes on, and the piece opened a file: the rest goes on from what the check of that file gives (`piece_gone`, `enters`).
pub loop-piece-preserved : goal.loop-piece-preserved
loop-piece-preserved g t c = record {
  asks = asked_further c.loop-piece.invariant.asks (asked_further c.step.ensures.asks c.check_file.ensures.asks);
  rest = λ F e.
      piece_gone F c.args.search.now.prefixes.now (is_full most_faults) c.args.levels c.loop-piece.checking c.args.file.now
      c.as_slice-piece-items.result.now
      c.loop-piece.piece-index c.piece-item.result c.step.new.checking c.check_file.new.checking c.in_ok-next.next
      (file_checked F c.args.search.now.prefixes.now (is_full most_faults) c.args.levels c.args.checking.now
      c.args.file.now) c.as_slice-piece-items.ensures
      c.loop-piece-test.true c.piece-item.is (sym c.is_full.ensures ∙ c.if-is_full.false)
      (c.in_ok-next.ensures.steps F (extends_before c.check_file.ensures.asks e))
      (enters F c.args.search.now.prefixes.now (is_full most_faults) c.args.levels c.step.new.checking
      c.check_file.new.checking c.in_ok-next.next
      c.in-Some.inner
      c.in-Some.is c.in_ok-next.ensures.within (c.in_ok-check_file.ensures.checks F e))
      (c.loop-piece.invariant.rest F (extends_before c.step.ensures.asks (extends_before c.check_file.ensures.asks e)));
}

-- The check goes on, and the piece opened no file: the rest of the pieces goes on from its step.
pub loop-piece-preserved-in_default : goal.loop-piece-preserved-in_default
loop-piece-preserved-in_default g t c = record {
  asks = asked_further c.loop-piece.invariant.asks c.step.ensures.asks;
  rest = λ F e.
      piece_gone F c.args.search.now.prefixes.now (is_full most_faults) c.args.levels c.loop-piece.checking c.args.file.now
      c.as_slice-piece-items.result.now
      c.loop-piece.piece-index c.piece-item.result c.step.new.checking c.step.new.checking c.in_ok-next.next
      (file_checked F c.args.search.now.prefixes.now (is_full most_faults) c.args.levels c.args.checking.now
      c.args.file.now) c.as_slice-piece-items.ensures
      c.loop-piece-test.true c.piece-item.is (sym c.is_full.ensures ∙ c.if-is_full.false) (c.in_ok-next.ensures.steps F e)
      (ap (entered (enters_at F c.args.search.now.prefixes.now (is_full most_faults) c.args.levels) c.step.new.checking)
      c.in_default.is)
      (c.loop-piece.invariant.rest F (extends_before c.step.ensures.asks e));
}
