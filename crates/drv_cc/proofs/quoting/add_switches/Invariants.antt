use Rattle.drv_cc.specs.Front.{switch_words}
use Rattle.std.proofs.Common.{◌≡◌, ◌++◌, drop}
use Rattle.drv_cc.proofs.quoting.add_switches.Given as goal

abbrev pub invariant-loop-item : goal.invariant-loop-item
invariant-loop-item l = l.words ++ switch_words (drop l.item-index l.items) ≡ l.fn.words ++ switch_words l.items
