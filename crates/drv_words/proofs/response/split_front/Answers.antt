use Rattle.drv_words.proofs.Counting.{ends_all, words_grow}
use Rattle.std.proofs.Common.{arith, length, ap, sym}
use Rattle.drv_words.proofs.response.split_front.Goals.{then-loop-splitter-test+else-saturating_sub-most, else-loop-splitter-test}
use Rattle.drv_words.proofs.response.split_front.Goals as goal

-- Names: `ends_all`: at the end of a text the splitter has all its words. `words_grow`: a text takes no word away.

-- if more words were made than are permitted, the text has more (`words_grow`)
pub returns-clause-more : goal.returns-clause-more
returns-clause-more c more =
    let all = ap length (sym c.loop-splitter.invariant) in
    elim c.loop-splitter-test.branch [
      | then-loop-splitter-test+else-saturating_sub-most w ↦ omega (
        arith,
        w.if-saturating_sub-most.false,
        w.saturating_sub.ensures,
        w.len.ensures,
        all,
        words_grow c.loop-splitter.splitter c.loop-splitter.left.now,
      )
      | else-loop-splitter-test w ↦ omega (
        arith,
        more,
        all,
        ap (λ s. length s.words) c.in_ok-end_word.ensures,
        ends_all c.loop-splitter.splitter c.loop-splitter.left.now w.loop-splitter-test.ensures,
      )
    ]
