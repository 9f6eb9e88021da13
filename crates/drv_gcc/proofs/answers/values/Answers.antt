use Rattle.drv_words.specs.Bytes.{newline}
use Rattle.drv_gcc.proofs.answers.values.Goals as goal
use Rattle.drv_gcc.specs.Answers.{value_in}
use Rattle.std.proofs.Common.{◌==◌, ◌∙◌, ap, rules, tests}
use Rattle.std.proofs.lemmas.Iterator.Consumers.{YieldsList-end}
use Rattle.std.proofs.lemmas.Iterator.Splits.{YieldsList-from_slice_split}
use Rattle.std.specs.List.{flat_map}
use Rattle.std.specs.Slice.Iter.{split_callee, split_done, split_rest}

-- The pieces that the loop took are all lines of the text.
pub returns : goal.returns
returns c =
    let made = c.split-line-items.ensures in
    let given = c.into_iter-line-iterator.ensures in
    let all = YieldsList-end (YieldsList-from_slice_split _ (λ b. b == newline) c.args.text.now
    (ap split_rest given.into_iter_gives ∙ made.rest) (ap split_done given.into_iter_gives ∙ made.done)
    (ap split_callee given.into_iter_gives ∙ made.closure) (λ x b q k. search (rules, tests)))
    c.loop-line.yielded _ c.loop-line.yielded_by _ _ c.in-None.is c.next.ensures.steps in
    c.loop-line.invariant ∙ ap (flat_map (value_in c.args.key.now)) all.0
