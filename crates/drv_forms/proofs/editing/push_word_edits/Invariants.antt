use Rattle.drv_forms.proofs.editing.push_word_edits.Given as goal
use Rattle.std.proofs.Common.{◌+◌, length}

-- each turn takes a word of one of the lists
abbrev pub decreases-loop-left : goal.decreases-loop-left
decreases-loop-left l = length l.left + length l.coming
