use Rattle.drv_match.proofs.Parts.{all_hidden}
use Rattle.drv_match.proofs.switches.Switches.hide.Given as goal
use Rattle.std.proofs.Common.{◌≡◌, drop}

-- to hide the places that are left hides all that the pattern names
abbrev pub invariant-loop-place : goal.invariant-loop-place
invariant-loop-place l = all_hidden (drop l.place-index l.named) l.hidden ≡ all_hidden l.named l.fn.hidden
