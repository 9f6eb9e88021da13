use Rattle.drv_match.proofs.LineSearch.{next_found}
use Rattle.drv_match.proofs.switches.Switches.next_on_line.Goals as goal
use Rattle.drv_match.specs.Matching.{is_hit}
use Rattle.std.proofs.Common.{◌≡◌, false, rules, tests, true}
use Rattle.std.proofs.lemmas.Iterator.{first_from_Range}

-- Names: `next_found`: the first place that is hit from `from` on. `is_hit`: the switch at a place is hit.

-- the first place of the line, from this one on, that passes the test
pub returns : goal.returns
returns c =
    let hit = is_hit c.args.self.now c.args.hidden.now c.args.pattern.now in
    next_found c.args.self.now c.args.hidden.now c.args.pattern.now c.args.from c.len.result c.find.result c.len.ensures
    (first_from_Range _ _ _ c.find.result (λ i. hit i ≡ true) (λ i. hit i ≡ false) c.find.ensures.ran (λ x q k. search (rules, tests))
    (λ x q k. search (rules, tests)))
