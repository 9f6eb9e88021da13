use Rattle.drv_compile.proofs.compilers.names_in.Goals as goal
use Rattle.drv_compile.specs.Compilers.{is_between}
use Rattle.std.proofs.Common.{◌∙◌, ap, rules, tests}
use Rattle.std.proofs.lemmas.Iterator.Consumers.{YieldsList-end}
use Rattle.std.proofs.lemmas.Iterator.Splits.{YieldsList-from_slice_split}
use Rattle.std.specs.Slice.Iter.{split_callee, split_done, split_rest}

-- The pieces that the loop took are all names of the text.
pub returns : goal.returns
returns c =
    let made = c.split-name-items.ensures in
    let given = c.into_iter-name-iterator.ensures in
    let all = YieldsList-end (YieldsList-from_slice_split _ is_between c.args.text.now (ap split_rest given.into_iter_gives ∙ made.rest)
    (ap split_done given.into_iter_gives ∙ made.done) (ap split_callee given.into_iter_gives ∙ made.closure)
    (λ x b q k. search (rules, tests)))
    c.loop-name.yielded _ c.loop-name.yielded_by _ _ c.in-None.is c.next.ensures.steps in
    c.loop-name.invariant ∙ all.0
