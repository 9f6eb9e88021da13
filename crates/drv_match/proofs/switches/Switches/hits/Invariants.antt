use Rattle.drv_match.proofs.Parts.{counts}
use Rattle.drv_match.specs.Matching.{is_broad}
use Rattle.drv_match.proofs.switches.Switches.hits.Given as goal
use Rattle.std.proofs.Common.{◌≡◌, ◌++◌, drop, filter}

-- the places so far, with those that count among the ones left, are all that count
abbrev pub invariant-loop-place : goal.invariant-loop-place
invariant-loop-place l = l.places.items ++ filter (counts l.self l.hidden (is_broad l.pattern)) (drop l.place-index l.named)
    ≡ filter (counts l.self l.hidden (is_broad l.pattern)) l.named
