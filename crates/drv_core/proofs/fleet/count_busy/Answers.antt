use Rattle.drv_core.proofs.fleet.count_busy.Goals as goal
use Rattle.drv_core.specs.Code.Fleet.{busy}
use Rattle.std.proofs.Common.{◌∙◌, ap, rules, tests}
use Rattle.std.proofs.lemmas.Iterator.Consumers.{YieldsList-from_filter, count_from_yields_List}
use Rattle.std.proofs.lemmas.Iterator.{YieldsList-from_slice}
use Rattle.std.specs.Slice.Iter.{iter_rest}

-- Names: `busy`: whether a job has something to do.

-- the jobs that pass the test are counted
pub returns : goal.returns
returns c =
    count_from_yields_List _ _ c.count.ensures.ran
    (YieldsList-from_filter _ busy (YieldsList-from_slice c.args.jobs.now (ap iter_rest c.filter.ensures.source ∙ c.iter.ensures.rest))
    c.filter.ensures.closure (λ x r q k. search (rules, tests)))
