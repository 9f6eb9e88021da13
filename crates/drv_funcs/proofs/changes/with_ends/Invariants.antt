use Rattle.drv_funcs.proofs.changes.with_ends.Given as goal
use Rattle.drv_funcs.specs.Code.Changes.{end_in}
use Rattle.std.proofs.Common.{◌≡◌, ◌++◌, drop}
use Rattle.std.specs.List.{filter_map}

-- the words so far, with what becomes of those that are left, are all
abbrev pub invariant-loop-word : goal.invariant-loop-word
invariant-loop-word l = l.ended ++ filter_map (end_in l.ends) (drop l.word-index l.words) ≡ filter_map (end_in l.ends) l.words
