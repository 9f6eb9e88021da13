use Rattle.drv_gcc.proofs.answers.named_texts.Given as goal
use Rattle.drv_gcc.specs.Answers.{names_from}
use Rattle.std.proofs.Common.{◌≡◌, [], length}

abbrev pub invariant-loop-left : goal.invariant-loop-left
invariant-loop-left l = names_from l.beginning l.names l.left ≡ names_from l.beginning [] l.texts

abbrev pub decreases-loop-left : goal.decreases-loop-left
decreases-loop-left l = length l.left
