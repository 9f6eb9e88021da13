use Rattle.drv_specs.proofs.settling.settle.Given as goal
use Rattle.drv_specs.specs.Lines.{is_kept, joined_onto, settle}
use Rattle.std.proofs.Common.{◌≡◌, filter, fold, length}

-- what is left so far, with the rest of the text, gives what the whole text gives
abbrev pub invariant-loop-at : goal.invariant-loop-at
invariant-loop-at l = fold joined_onto l.left.items (filter is_kept l.rest) ≡ settle l.text

-- each turn leaves less of the text, so the loop ends
abbrev pub decreases-loop-at : goal.decreases-loop-at
decreases-loop-at l = length l.rest
