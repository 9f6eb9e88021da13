use Rattle.std.proofs.Common.{◌≡◌, ◌≤◌, length}
use Rattle.drv_words.specs.Code.Splitter.{following, words_of}
use Rattle.drv_words.proofs.response.split_front.Given as goal

-- each turn leaves less of the text, so the loop ends
abbrev pub decreases-loop-splitter : goal.decreases-loop-splitter
decreases-loop-splitter l = length l.left

-- the splitter so far makes of the rest what it makes of the whole text
abbrev pub invariant-loop-splitter : goal.invariant-loop-splitter
invariant-loop-splitter l = words_of l.splitter l.left ≡ words_of (following l.fn.words) l.text
