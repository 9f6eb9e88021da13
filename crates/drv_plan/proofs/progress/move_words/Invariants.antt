use Rattle.drv_plan.proofs.progress.move_words.Given as goal
use Rattle.std.proofs.Common.{◌≡◌, ◌++◌}

-- the list has the words that were moved so far
abbrev pub invariant-loop-word : goal.invariant-loop-word
invariant-loop-word l = l.list ≡ l.initial.list ++ l.yielded
