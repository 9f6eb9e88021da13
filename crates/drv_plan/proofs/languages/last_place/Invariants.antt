use Rattle.drv_plan.proofs.languages.last_place.Given as goal
use Rattle.drv_plan.specs.Languages.{last_text}
use Rattle.drv_plan.specs.Code.Looking.{fits}
use Rattle.std.proofs.Common.{◌≡◌, ◌≤◌, length, take}

-- fewer pairs are left each turn, so the loop ends
abbrev pub decreases-loop-left : goal.decreases-loop-left
decreases-loop-left l = l.left

-- no later pair fits, so the last one that fits is among those that are left
abbrev pub invariant-loop-left : goal.invariant-loop-left
invariant-loop-left l = record {
  within : l.left ≤ length l.pairs;
  rest : last_text (fits l.wanted) (take l.left l.pairs) ≡ last_text (fits l.wanted) l.pairs;
}
