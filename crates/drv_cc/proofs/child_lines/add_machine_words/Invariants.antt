use Rattle.drv_cc.proofs.child_lines.add_machine_words.Given as goal
use Rattle.drv_cc.specs.Children.{machine_words}
use Rattle.std.proofs.Common.{◌≡◌, ◌++◌, drop}

abbrev pub invariant-loop-text : goal.invariant-loop-text
invariant-loop-text l = l.words ++ machine_words (drop l.text-index l.told) ≡ l.fn.words ++ machine_words l.told
