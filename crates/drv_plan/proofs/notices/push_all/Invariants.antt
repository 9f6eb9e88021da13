use Rattle.drv_plan.proofs.notices.push_all.Given as goal
use Rattle.drv_plan.specs.Denoted.{between}
use Rattle.std.proofs.Common.{◌≡◌, ◌++◌, drop, map}

-- the list so far, with the words that are left, is that before with all of them
abbrev pub invariant-loop-word : goal.invariant-loop-word
invariant-loop-word l = l.list ++ map (between l.before l.after) (drop l.word-index l.words) ≡ l.fn.list
    ++ map (between l.before l.after) l.words
