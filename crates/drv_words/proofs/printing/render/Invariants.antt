use Rattle.std.proofs.Common.{◌≡◌, ◌++◌, drop}
use Rattle.drv_words.specs.Printed.{lines_text}
use Rattle.drv_words.proofs.printing.render.Given as goal

-- the text so far, with that of the lines that are left, is that of all lines
abbrev pub invariant-loop-line : goal.invariant-loop-line
invariant-loop-line l = l.text.items ++ lines_text (drop l.line-index l.lines) ≡ lines_text l.lines
