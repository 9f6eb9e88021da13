use Rattle.drv_dump.proofs.files.with_named_texts.Given as goal
use Rattle.drv_dump.specs.Files.{files_from}
use Rattle.drv_dump.specs.declared.files.Joint.TheVariants.{Open}
use Rattle.std.proofs.Common.{◌≡◌, ◌++◌, length}

abbrev pub invariant-loop-left : goal.invariant-loop-left
invariant-loop-left l = l.named ++ files_from l.skip l.joint l.left ≡ files_from 0 Open l.pieces

abbrev pub decreases-loop-left : goal.decreases-loop-left
decreases-loop-left l = length l.left
