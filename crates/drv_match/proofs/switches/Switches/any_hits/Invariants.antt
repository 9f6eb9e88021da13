use Rattle.drv_match.proofs.LineSearch.{hits_from}
use Rattle.drv_match.proofs.switches.Switches.any_hits.Given as goal
use Rattle.drv_match.specs.Matching.{any_hits}
use Rattle.std.proofs.Common.{◌≡◌, ◌++◌}

-- the places so far, with those from here on that are hit, are all hits
abbrev pub invariant-loop-place : goal.invariant-loop-place
invariant-loop-place l = l.places.items ++ hits_from l.self l.hidden l.patterns l.place ≡ any_hits l.self l.hidden l.patterns
