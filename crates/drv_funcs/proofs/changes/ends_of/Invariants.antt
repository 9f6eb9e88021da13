use Rattle.drv_funcs.proofs.changes.ends_of.Given as goal
use Rattle.drv_funcs.specs.Code.Changes.{EndsAfter}
use Rattle.std.proofs.Common.{length}

-- the map has the changes that follow those that are left
abbrev pub invariant-loop-left : goal.invariant-loop-left
invariant-loop-left l = EndsAfter l.changes l.left l.ends

-- each turn takes a change, so the loop ends
abbrev pub decreases-loop-left : goal.decreases-loop-left
decreases-loop-left l = length l.left
