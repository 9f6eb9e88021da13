use Rattle.std.proofs.Common.{◌≡◌, ◌++◌, drop}
use Rattle.drv_words.specs.Lines.{group_lines}
use Rattle.drv_words.proofs.printing.push_group.Given as goal

-- the lines so far, with those of the commands that are left, are those before and of the whole group
abbrev pub invariant-loop-index : goal.invariant-loop-index
invariant-loop-index l = l.lines ++ group_lines (drop l.index l.commands) ≡ l.fn.lines ++ group_lines l.commands
