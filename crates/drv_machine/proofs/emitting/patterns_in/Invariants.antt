use Rattle.drv_machine.proofs.EmitSteps.{PatternsLeft}
use Rattle.drv_machine.proofs.emitting.patterns_in.Given as goal
use Rattle.drv_machine.specs.Code.Standing.{Spans, Stands}
use Rattle.drv_syntax.specs.Labels.{pattern_nodes}
use Rattle.drv_syntax.specs.Tree.{Pattern, Span}
use Rattle.std.proofs.Common.{List, ◌-◌}

-- the patterns so far and those of the tokens that are left are the patterns of the braces
abbrev pub invariant-loop-at : goal.invariant-loop-at
invariant-loop-at l = record {
  spans : Spans l.text l.at l.end;
  left : (patterns : List (Span × Pattern)) → Stands l.text l.start (pattern_nodes patterns) l.end
      → PatternsLeft l.text l.at l.end l.patterns patterns;
}

-- each round passes a pattern
abbrev pub decreases-loop-at : goal.decreases-loop-at
decreases-loop-at l = l.end - l.at
