use Rattle.drv_cc.proofs.checks.speaks_of.Goals as goal
use Rattle.drv_cc.specs.Levels.{stands_for}
use Rattle.drv_words.specs.Bytes.{comma}
use Rattle.std.proofs.Common.{◌==◌, rules, tests}
use Rattle.std.proofs.lemmas.Iterator.Search.{any_from_yields_List}
use Rattle.std.proofs.lemmas.Iterator.Splits.{YieldsList-from_slice_split}

-- Names: `stands_for`: whether a name between commas is one of a check.

pub returns : goal.returns
returns c =
    let made = c.split.ensures in
    any_from_yields_List (stands_for c.args.check.now) _ _ _ c.any.ensures.ran
    (YieldsList-from_slice_split _ (λ b. b == comma) c.args.names.now made.rest made.done made.closure (λ x b q k. search (rules, tests)))
    (λ x b q k. search (rules, tests))
