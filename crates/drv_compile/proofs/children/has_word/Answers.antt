use Rattle.drv_compile.proofs.children.has_word.Goals as goal
use Rattle.drv_compile.specs.Machines.{is_word}
use Rattle.drv_words.specs.Bytes.{tab}
use Rattle.std.proofs.Common.{◌==◌, rules, tests}
use Rattle.std.proofs.lemmas.Iterator.Search.{any_from_yields_List}
use Rattle.std.proofs.lemmas.Iterator.Splits.{YieldsList-from_slice_split}

-- The pieces that the search tries are the words of the row between its tabs.
pub returns : goal.returns
returns c =
    let made = c.split.ensures in
    any_from_yields_List (is_word c.args.item.now) _ _ _ c.any.ensures.ran
    (YieldsList-from_slice_split _ (λ b. b == tab) c.args.row.now made.rest made.done made.closure (λ x b q k. search (rules, tests)))
    (λ x b q k. search (rules, tests))
