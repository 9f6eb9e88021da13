use Rattle.drv_cc.proofs.known.is_known.Goals as goal
use Rattle.drv_cc.specs.Items.{same}
use Rattle.drv_words.specs.Bytes.{newline}
use Rattle.std.proofs.Common.{◌==◌, rules, tests}
use Rattle.std.proofs.lemmas.Iterator.Search.{any_from_yields_List}
use Rattle.std.proofs.lemmas.Iterator.Splits.{YieldsList-from_slice_split}

-- Names: `same`: whether two texts have the same bytes.

pub returns : goal.returns
returns c =
    let made = c.split.ensures in
    any_from_yields_List (same c.args.name.now) _ _ _ c.any.ensures.ran
    (YieldsList-from_slice_split _ (λ b. b == newline) c.args.known.now made.rest made.done made.closure (λ x b q k. search (rules, tests)))
    (λ x b q k. search (rules, tests))
