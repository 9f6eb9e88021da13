use Rattle.drv_machine.proofs.turns.work_items.Given as goal
use Rattle.drv_machine.specs.Code.Counting.{state}
use Rattle.drv_machine.specs.Code.Running.{Machine}
use Rattle.drv_machine.specs.Code.Walking.{HasFrames, Lain, Left}
use Rattle.drv_machine.specs.Working.{Answer}
use Rattle.drv_system.specs.Asking.{Extends}
use Rattle.drv_system.specs.Code.Asked.{Asked}
use Rattle.drv_system.specs.Facts.{Facts}
use Rattle.std.proofs.Common.{◌-◌}

-- what is left of the walk gives what the whole would have given
abbrev pub invariant-loop-watch : goal.invariant-loop-watch
invariant-loop-watch g l = record {
  asks : Asked g.S.System.events l.fn.outside l.outside;
  lain : Lain l.walk.text.now l.walk;
  framed : HasFrames l.context l.walk.text.now l.walk;
  left : (F : Facts) → Extends l.outside.facts.now F → (given : Answer (Unit {0} × Machine))
      → Left F l.context l.fn.walk.text.now l.fn.walk (state l.fn.tally) given → Left F l.context l.walk.text.now l.walk (state l.tally)
      given;
}

-- each round reaches an item, and the limit of items ends the loop
abbrev pub decreases-loop-watch : goal.decreases-loop-watch
decreases-loop-watch g l = 1000000 - l.tally.items
