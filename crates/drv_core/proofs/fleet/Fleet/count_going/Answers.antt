use Rattle.drv_core.proofs.fleet.Fleet.count_going.Goals as goal
use Rattle.drv_core.specs.Code.Fleet.{all_fly, may_go}
use Rattle.drv_core.specs.Code.FleetView.{fleet_of}
use Rattle.std.proofs.Common.{◌∙◌, ap, rules, tests}
use Rattle.std.proofs.lemmas.Iterator.Consumers.{YieldsList-from_filter, count_from_yields_List}
use Rattle.std.proofs.lemmas.Iterator.{YieldsList-from_slice}
use Rattle.std.specs.Slice.Iter.{iter_rest}

-- those that are under way and may go on are counted
pub returns-clause-going : goal.returns-clause-going
returns-clause-going c jobs =
    count_from_yields_List _ _ c.count.ensures.ran
    (YieldsList-from_filter _ (may_go (all_fly (fleet_of jobs c.args.self.now)) (fleet_of jobs c.args.self.now))
    (YieldsList-from_slice c.args.self.now.begun.items (ap iter_rest c.filter.ensures.source ∙ c.iter.ensures.rest
    ∙ c.as_slice-begun.ensures.value))
    c.filter.ensures.closure (λ x r q k. search (rules, tests)))
