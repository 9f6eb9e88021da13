use Rattle.drv_cc.proofs.giving.add_thread_items.Given as goal
use Rattle.drv_cc.specs.SelfSpecs.{thread_item}
use Rattle.std.proofs.Common.{◌≡◌, ◌++◌, drop, map}

abbrev pub invariant-loop-word : goal.invariant-loop-word
invariant-loop-word l = l.items ++ map thread_item (drop l.word-index l.words) ≡ l.fn.items ++ map thread_item l.words
