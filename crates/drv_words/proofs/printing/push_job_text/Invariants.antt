use Rattle.std.proofs.Common.{◌≡◌, ◌++◌, drop}
use Rattle.std.specs.List.{flat_map}
use Rattle.drv_words.specs.Lines.{group_lines}
use Rattle.drv_words.specs.Printed.{lines_text}
use Rattle.drv_words.proofs.printing.push_job_text.Given as goal

-- the text so far, with that of the groups that are left, is that before and of the whole job
abbrev pub invariant-loop-group : goal.invariant-loop-group
invariant-loop-group l = l.text.items ++ lines_text (flat_map group_lines (drop l.group-index l.group-items)) ≡ l.fn.text.items
    ++ lines_text (flat_map group_lines l.group-items)
