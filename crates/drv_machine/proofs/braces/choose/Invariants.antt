use Rattle.drv_machine.proofs.ChoiceSteps.{ChoicesLeft}
use Rattle.drv_machine.proofs.braces.choose.Given as goal
use Rattle.drv_machine.specs.Code.Running.{reached}
use Rattle.drv_machine.specs.Code.Standing.{Spans, Stands}
use Rattle.drv_machine.specs.Working.{Levels}
use Rattle.drv_syntax.specs.Labels.{choice_nodes}
use Rattle.drv_syntax.specs.Tree.{Choices}
use Rattle.drv_system.specs.Facts.{Facts}
use Rattle.std.proofs.Common.{List, ◌-◌, ◌≡◌, ◌≤◌, ℕ}

-- no alternative so far is true: those that are left decide, and the walk is as it was
abbrev pub invariant-loop-at : goal.invariant-loop-at
invariant-loop-at l = record {
  walk : l.walk ≡ l.fn.walk;
  low : l.start ≤ l.at;
  spans : Spans l.fn.walk.text.now l.at l.end;
  left : (n : ℕ) (F : Facts) (choices : Choices) (levels : Levels) (star : List ℕ) → Stands l.fn.walk.text.now l.start
      (choice_nodes choices) l.end → ChoicesLeft F l.context l.fn.walk.text.now (reached n l.fn.machine) (reached n l.machine) l.at
      l.end choices levels star;
}

-- each round passes an alternative
abbrev pub decreases-loop-at : goal.decreases-loop-at
decreases-loop-at l = l.end - l.at
