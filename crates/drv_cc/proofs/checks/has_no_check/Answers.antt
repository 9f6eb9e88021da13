use Rattle.drv_cc.proofs.checks.has_no_check.Goals as goal
use Rattle.drv_cc.specs.Checks.{is_check}
use Rattle.drv_words.specs.Bytes.{comma}
use Rattle.std.proofs.Common.{◌==◌, not, rules, tests}
use Rattle.std.proofs.lemmas.Iterator.Search.{any_from_yields_List}
use Rattle.std.proofs.lemmas.Iterator.Splits.{YieldsList-from_slice_split}

-- Names: `is_check`: whether a name is a check's or a group's.

pub returns : goal.returns
returns c =
    let made = c.split.ensures in
    any_from_yields_List (λ name. not (is_check c.args.option.now name)) _ _ _ c.any.ensures.ran
    (YieldsList-from_slice_split _ (λ b. b == comma) c.args.names.now made.rest made.done made.closure (λ x b q k. search (rules, tests)))
    (λ x b q k. search (rules, tests))
