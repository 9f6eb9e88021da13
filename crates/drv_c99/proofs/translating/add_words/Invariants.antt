use Rattle.drv_c99.specs.declared.option.Side.TheVariants.{BeforeEnd}
use Rattle.drv_c99.specs.Code.Building.{front_with}
use Rattle.drv_c99.specs.Front.{items_of}
use Rattle.std.proofs.Common.{◌≡◌, length}
use Rattle.drv_c99.proofs.translating.add_words.Given as goal

-- the front so far, with the items of the words that are left, gives what the whole line gives
abbrev pub invariant-loop-left : goal.invariant-loop-left
invariant-loop-left l = front_with l.front (items_of l.side l.left) ≡ front_with l.fn.front (items_of BeforeEnd l.words)

-- each turn takes a word or two, so the loop ends
abbrev pub decreases-loop-left : goal.decreases-loop-left
decreases-loop-left l = length l.left
