use Rattle.drv_machine.proofs.FailureFiles.{are_choices, are_patterns, no_parts}
use Rattle.drv_machine.proofs.Standing.{front_in}
use Rattle.drv_machine.proofs.failing.has_patterns.Goals as goal
use Rattle.std.proofs.Common.{arith}

-- Names: `t`, `s`: the clause's conditions `IsFalse` and `Stands`. `are_choices`: braces whose first part is no pattern have alternatives.
-- `are_patterns`: braces whose first part is a pattern put switches.

-- braces without a part mean what no alternatives mean
pub returns-then-start-end-clause-choices : goal.returns-then-start-end-clause-choices
returns-then-start-end-clause-choices c t brace s = no_parts c.args.text.now c.args.start c.args.end c.if-start-end.true brace s

-- the first part is a token of the text
pub token_at-requires : goal.token_at-requires
token_at-requires c = front_in c.args.text.now c.args.start c.args.end (omega (arith, c.if-start-end.false)) c.requires

-- braces whose first part is a pattern hold patterns
pub returns-in-Pattern-clause-patterns : goal.returns-in-Pattern-clause-patterns
returns-in-Pattern-clause-patterns c t brace s = are_patterns c.args.text.now c.args.start c.args.end
    (omega (arith, c.if-start-end.false)) c.token_at.result c.token_at.ensures c.in-Pattern.is brace s

-- braces whose first part is no pattern hold alternatives
pub returns-in_default-clause-choices : goal.returns-in_default-clause-choices
returns-in_default-clause-choices c t brace s = are_choices c.args.text.now c.args.start c.args.end
    (omega (arith, c.if-start-end.false)) c.token_at.result c.token_at.ensures c.in_default.not-Pattern brace s
