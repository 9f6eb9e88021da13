use Rattle.drv_args.specs.Code.Building.{line_with}
use Rattle.drv_args.specs.Fronts.{items_of}
use Rattle.std.proofs.Common.{◌≡◌, length}
use Rattle.drv_args.proofs.reading.note_words.Given as goal

-- the line so far, with the items of the words that are left, gives what the whole line gives
abbrev pub invariant-loop-left : goal.invariant-loop-left
invariant-loop-left l = line_with l.builder (items_of l.left) ≡ line_with l.fn.builder (items_of l.words)

-- each turn takes a word or two, so the loop ends
abbrev pub decreases-loop-left : goal.decreases-loop-left
decreases-loop-left l = length l.left
