use Rattle.std.proofs.Common.{◌≡◌, ◌++◌, drop}
use Rattle.drv_words.specs.Lines.{group_lines}
use Rattle.drv_words.specs.Printed.{lines_text}
use Rattle.drv_words.proofs.printing.push_group_text.Given as goal

-- the text so far, with that of the commands that are left, is that before and of the whole group
abbrev pub invariant-loop-index : goal.invariant-loop-index
invariant-loop-index l = l.text.items ++ lines_text (group_lines (drop l.index l.commands)) ≡ l.fn.text.items ++ lines_text
    (group_lines l.commands)
