use Rattle.std.proofs.Common.{◌≡◌, length}
use Rattle.drv_words.specs.Code.Splitter.{following, words_of}
use Rattle.drv_words.proofs.response.split_text.Given as goal

-- each turn leaves less of the text, so the loop ends
abbrev pub decreases-loop-left : goal.decreases-loop-left
decreases-loop-left l = length l.left

-- the splitter so far makes of the rest what it makes of the whole text
abbrev pub invariant-loop-left : goal.invariant-loop-left
invariant-loop-left l = words_of l.splitter l.left ≡ words_of (following l.fn.words) l.text
