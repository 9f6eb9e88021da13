use Rattle.drv_dump.proofs.files.split_last.Given as goal
use Rattle.drv_dump.specs.Files.{split_from}
use Rattle.std.proofs.Common.{◌≡◌, [], length}

abbrev pub invariant-loop-left : goal.invariant-loop-left
invariant-loop-left l = split_from l.front l.word l.left ≡ split_from [] [] l.text

abbrev pub decreases-loop-left : goal.decreases-loop-left
decreases-loop-left l = length l.left
