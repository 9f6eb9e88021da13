use Rattle.drv_check.proofs.hidden_pair.is_covered.Given as goal
use Rattle.drv_check.specs.HiddenPairs.{hides_key}
use Rattle.std.proofs.Common.{◌≡◌, drop}
use Rattle.std.specs.List.{list_any}

abbrev pub invariant-loop-piece : goal.invariant-loop-piece
invariant-loop-piece l = list_any (hides_key l.key) (drop l.piece-index l.later) ≡ list_any (hides_key l.key) l.later
