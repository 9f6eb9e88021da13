use Rattle.drv_syntax.proofs.MarkedWords.{labels_longer, within_longer, within_mark}
use Rattle.drv_syntax.proofs.Taken.{ok_same}
use Rattle.drv_syntax.proofs.labels.Labels.lengthen_last.Goals as goal
use Rattle.std.proofs.Common.{◌-◌, ◌∙◌, ap, arith, sym}
use Rattle.std.specs.Prelude.{Ok}

-- Names: `within_mark`: the word of a mark that is at this place lies within n bytes. `ok_same`: the values of two equal results are equal.
-- `labels_longer`: where the last word is at the end of the words.

-- the last word begins before it ends
pub last_start-requires-clause-order : goal.last_start-requires-clause-order
last_start-requires-clause-order c =
    (within_mark _ c.self.inside.marks.items (c.len-count.result - 1) c.index-mark.result.now c.self.invariant
    (omega (arith, c.if-count-eq0.false, c.len-count.ensures, c.self.inside.marks.ok.0)) c.index-mark.ensures).0

-- the last word ends within the words
pub last_start-requires-clause-within : goal.last_start-requires-clause-within
last_start-requires-clause-within c =
    (within_mark _ c.self.inside.marks.items (c.len-count.result - 1) c.index-mark.result.now c.self.invariant
    (omega (arith, c.if-count-eq0.false, c.len-count.ensures, c.self.inside.marks.ok.0)) c.index-mark.ensures).1

-- all words are within the longer list of words
pub invariant_of-self-2 : goal.invariant_of-self-2
invariant_of-self-2 c =
    within_longer c.self.inside.words.items c.last_start.new.words.items c.extend_from_slice.new.self.items c.args.more.now
    c.self.inside.marks.items (c.len-count.result - 1) _ c.self.invariant c.in_ok-start.ensures.kept c.in_ok-start.ensures.place
    c.in_ok-extend_from_slice.ensures.items (sym (ok_same c.in_ok-end.ensures) ∙ c.len.ensures ∙ c.extend_from_slice.new.self.ok.0)

-- the label of the last mark has the longer word
pub returns : goal.returns
returns c =
    ap (λ ls. Ok ls) (labels_longer c.self.inside.words.items c.last_start.new.words.items c.extend_from_slice.new.self.items
    c.args.more.now c.self.inside.marks.items c.args.self.now c.index-mark.result.now c.in_ok-start.start c.in_ok-end.end
    (c.len-count.result - 1) c.self.view_is c.self.invariant
    (omega (arith, c.if-count-eq0.false, c.len-count.ensures, c.self.inside.marks.ok.0)) c.index-mark.ensures c.in_ok-start.ensures.kept
    c.in_ok-start.ensures.place c.in_ok-start.ensures.word c.in_ok-extend_from_slice.ensures.items
    (sym (ok_same c.in_ok-end.ensures) ∙ c.len.ensures ∙ c.extend_from_slice.new.self.ok.0))
