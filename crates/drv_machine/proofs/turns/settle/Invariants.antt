use Rattle.drv_machine.proofs.turns.settle.Given as goal
use Rattle.drv_machine.specs.Code.Running.{Machine, reached}
use Rattle.drv_machine.specs.Code.Walking.{AtItem, HasFrames, Lain, Left, weight}
use Rattle.drv_machine.specs.Working.{Answer}
use Rattle.drv_system.specs.Asking.{Extends}
use Rattle.drv_system.specs.Code.Asked.{Asked}
use Rattle.drv_system.specs.Facts.{Facts}
use Rattle.std.proofs.Common.{◌<◌, length, ℕ}

-- what is left of the walk gives what the whole would have given (`left`); an item that is reached is no alternative (`at_item`); the walk
-- lies in the text (`lain`), and each open part is one of the text's (`framed`)
abbrev pub invariant-loop-walk : goal.invariant-loop-walk
invariant-loop-walk g l = record {
  asks : Asked g.S.System.events l.fn.outside l.outside;
  lain : Lain l.walk.text.now l.walk;
  framed : HasFrames l.context l.walk.text.now l.walk;
  at_item : l.walk.at < l.walk.end → AtItem l.walk.text.now l.walk;
  left : (n : ℕ) (F : Facts) → Extends l.outside.facts.now F → (given : Answer (Unit {0} × Machine))
      → Left F l.context l.fn.walk.text.now l.fn.walk (reached n l.fn.machine) given → Left F l.context l.walk.text.now l.walk
      (reached n l.machine) given;
}

-- each round closes a part, or opens one that was counted for its end (`weight`)
abbrev pub decreases-loop-walk : goal.decreases-loop-walk
decreases-loop-walk g l = weight (length l.context.switches) l.walk.frames
