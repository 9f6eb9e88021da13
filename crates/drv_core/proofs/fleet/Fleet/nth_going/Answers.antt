use Rattle.drv_core.proofs.fleet.Fleet.nth_going.Goals as goal
use Rattle.drv_core.specs.Code.Fleet.{all_fly, may_go}
use Rattle.drv_core.specs.Code.FleetView.{fleet_of}
use Rattle.std.proofs.Common.{◌∙◌, ap, rules, tests}
use Rattle.std.proofs.lemmas.Iterator.Consumers.{YieldsList-from_filter, nth_from_yields_List}
use Rattle.std.proofs.lemmas.Iterator.{YieldsList-from_slice}
use Rattle.std.proofs.lemmas.Option.{unwrap_or-slice_get}
use Rattle.std.specs.List.{filter}
use Rattle.std.specs.Prelude.{unwrap_or}
use Rattle.std.specs.Slice.Iter.{iter_rest}

-- the code's filter yields what the definition's does, and the choice is an index of it
pub returns : goal.returns
returns c jobs =
    let fleet = fleet_of jobs c.args.self.now in
    let begun = c.args.self.now.begun.items in
    let goes = may_go (all_fly fleet) fleet in
    c.unwrap_or.ensures
    ∙ ap (λ found. unwrap_or found c.args.self.now.next) (c.copied.ensures ∙ nth_from_yields_List _ _ c.args.choice c.nth.ensures.ran
    (YieldsList-from_filter _ goes (YieldsList-from_slice begun (ap iter_rest c.filter-going.ensures.source ∙ c.iter.ensures.rest
    ∙ c.as_slice-begun.ensures.value)) c.filter-going.ensures.closure (λ x r q k. search (rules, tests))))
    ∙ unwrap_or-slice_get (filter goes begun) c.args.choice c.args.self.now.next
