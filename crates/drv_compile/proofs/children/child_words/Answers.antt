use Rattle.drv_compile.proofs.children.child_words.Goals as goal
use Rattle.drv_compile.specs.Machines.{child_word}
use Rattle.drv_words.specs.Bytes.{tab}
use Rattle.std.proofs.Common.{◌==◌, ◌∙◌, ap, rules, tests}
use Rattle.std.proofs.lemmas.Iterator.Consumers.{YieldsList-end}
use Rattle.std.proofs.lemmas.Iterator.Splits.{YieldsList-from_slice_split}
use Rattle.std.specs.List.{flat_map}
use Rattle.std.specs.Slice.Iter.{split_callee, split_done, split_rest}

-- The pieces that the loop took are all words of the row between its tabs.
pub returns : goal.returns
returns c =
    let made = c.split-word-items.ensures in
    let given = c.into_iter-word-iterator.ensures in
    let all = YieldsList-end (YieldsList-from_slice_split _ (λ b. b == tab) c.args.row.now (ap split_rest given.into_iter_gives ∙ made.rest)
    (ap split_done given.into_iter_gives ∙ made.done) (ap split_callee given.into_iter_gives ∙ made.closure)
    (λ x b q k. search (rules, tests)))
    c.loop-word.yielded _ c.loop-word.yielded_by _ _ c.in-None.is c.next.ensures.steps in
    c.loop-word.invariant ∙ ap (flat_map (child_word c.args.items.now)) all.0
