use Rattle.drv_machine.proofs.Standing.{Passed}
use Rattle.drv_machine.specs.Code.Standing.{Spans, Stands}
use Rattle.drv_syntax.specs.Labels.{Nodes}
use Rattle.std.proofs.Common.{◌-◌}
use Rattle.drv_machine.proofs.tokens_at.tests_end.Given as goal

-- the parts passed so far are tests, and the others lie from the place that is reached on (`Passed`)
abbrev pub invariant-loop-at : goal.invariant-loop-at
invariant-loop-at l = record {
  spans : Spans l.tree l.at l.end;
  passed : (nodes : Nodes) → Stands l.tree l.start nodes l.end → Passed l.tree l.start l.at nodes l.end;
}

-- each round passes a test
abbrev pub decreases-loop-at : goal.decreases-loop-at
decreases-loop-at l = l.end - l.at
