use Rattle.drv_args.specs.Expansion.{file_named}
use Rattle.drv_compile.proofs.Worded.{not_some, unread_here, unread_more, unread_nowhere}
use Rattle.drv_compile.proofs.expanding.first_unread.Goals as goal
use Rattle.drv_compile.specs.Words.{unread_at}
use Rattle.drv_system.proofs.AskedCalls.{asked_further, extends_before}
use Rattle.drv_system.specs.Known.{Is}
use Rattle.std.proofs.Common.{◌∙◌, ap, arith, sym}

-- The word at hand names no file, or one that can be read: so the rest decides (`unread_more`).
pub loop-word-preserved : goal.loop-word-preserved
loop-word-preserved g c = record {
  asks = asked_further c.loop-word.invariant.asks c.unread_at.ensures.asks;
  rest = λ F e.
      unread_more F c.args.words.now c.loop-word.word-index c.word-item.result c.loop-word-test.true c.word-item.is
      (ap (unread_at F) (sym (c.file_named.ensures ∙ ap file_named c.as_bytes.ensures)) ∙ c.in_ok-unread.ensures.path F e
      ∙ ap Is (not_some c.in_ok-unread.unread (sym c.is_some.ensures ∙ c.if-is_some.false)))
      (c.loop-word.invariant.rest F (extends_before c.unread_at.ensures.asks e));
}

-- the word at hand names a file that can't be read, and no word before it does
pub returns-then-is_some-clause-path : goal.returns-then-is_some-clause-path
returns-then-is_some-clause-path g c F e =
    unread_here F c.args.words.now c.loop-word.word-index c.word-item.result c.in_ok-unread.unread c.loop-word-test.true c.word-item.is
    (ap (unread_at F) (sym (c.file_named.ensures ∙ ap file_named c.as_bytes.ensures)) ∙ c.in_ok-unread.ensures.path F e)
    (sym c.is_some.ensures ∙ c.if-is_some.true) (c.loop-word.invariant.rest F (extends_before c.unread_at.ensures.asks e))

pub returns-clause-path : goal.returns-clause-path
returns-clause-path g c F e = unread_nowhere F c.args.words.now c.loop-word.word-index (omega (arith, c.loop-word-test.false))
    (c.loop-word.invariant.rest F e)
