use Rattle.drv_funcs.proofs.Values.{last_within}
use Rattle.drv_funcs.proofs.comparing.value_of.Goals as goal
use Rattle.drv_funcs.specs.Outcome.{last, starred}
use Rattle.drv_match.specs.Matching.{hits}
use Rattle.std.proofs.Common.{◌≡◌, Some, rules}

-- Names: `starred`: the pattern of the names that begin with these bytes. `last_within`: so the last place of a hit is a place of the line.

-- the switch that is hit begins with the prefix, so it has a rest
pub rest-rest-requires : goal.rest-rest-requires
rest-rest-requires c =
    let at : last (hits c.args.switches.now c.args.hidden.now (starred c.args.prefix.now)) ≡ Some c.in-Some.place.now = search rules in
    last_within c.args.switches.now c.args.hidden.now (starred c.args.prefix.now) c.in-Some.place.now at
