use Rattle.drv_machine.proofs.TrueTests.{TestsLeft}
use Rattle.drv_machine.proofs.asking.first_true.Given as goal
use Rattle.drv_machine.specs.Code.Running.{reached}
use Rattle.drv_machine.specs.Code.Standing.{Spans, Stands}
use Rattle.drv_machine.specs.Working.{Levels}
use Rattle.drv_syntax.specs.Labels.{test_nodes}
use Rattle.drv_syntax.specs.Tree.{Tests}
use Rattle.drv_system.specs.Facts.{Facts}
use Rattle.std.proofs.Common.{List, ◌-◌, ◌≤◌, ℕ}

-- no test so far is true: those that are left decide what is found, and the state is as it was
abbrev pub invariant-loop-at : goal.invariant-loop-at
invariant-loop-at l = record {
  low : l.start ≤ l.at;
  spans : Spans l.text l.at l.end;
  left : (n : ℕ) (F : Facts) (tests : Tests) (levels : Levels) (star : List ℕ) → Stands l.text l.start (test_nodes tests) l.end
      → TestsLeft F l.context l.text (reached n l.machine) (reached n l.machine) l.at l.end tests levels star;
}

-- each round passes a test
abbrev pub decreases-loop-at : goal.decreases-loop-at
decreases-loop-at l = l.end - l.at
