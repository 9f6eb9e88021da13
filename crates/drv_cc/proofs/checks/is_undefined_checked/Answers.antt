use Rattle.drv_cc.proofs.checks.is_undefined_checked.Goals as goal
use Rattle.drv_cc.specs.Levels.{is_checked, ubsan_checks}
use Rattle.drv_words.specs.Bytes.{space}
use Rattle.std.proofs.Common.{◌==◌, rules, tests}
use Rattle.std.proofs.lemmas.Iterator.Search.{any_from_yields_List}
use Rattle.std.proofs.lemmas.Iterator.Splits.{YieldsList-from_slice_split}

-- Names: `is_checked`: whether a line turns a check on. `ubsan_checks`: all checks that need the library of undefined behaviour.

pub returns : goal.returns
returns c =
    let made = c.split.ensures in
    any_from_yields_List (is_checked c.args.items.now) _ _ _ c.any.ensures.ran
    (YieldsList-from_slice_split _ (λ b. b == space) ubsan_checks made.rest made.done made.closure (λ x b q k. search (rules, tests)))
    (λ x b q k. search (rules, tests))
