use Rattle.drv_syntax.proofs.Taken.{err_then, gives_same}
use Rattle.drv_syntax.proofs.descent.tests.plain_operand.Goals as goal
use Rattle.drv_syntax.specs.Code.Writing.{at_rest, seen}
use Rattle.drv_syntax.specs.Descent as d
use Rattle.drv_syntax.specs.Descent.{Took}
use Rattle.std.proofs.Common.{refl, sym, ◌∙◌}

-- Names: `err_then`: code that passes on the fault of a part meets its clause. `gives_same`: code that returns what a call returned meets
-- its clause.

-- the pattern has a fault
pub returns-in_err-p : goal.returns-in_err-p
returns-in_err-p c =
    gives_same _ _ (rw (c.requires.byte, sym c.is_mark.ensures ∙ c.if-is_mark.false, c.requires.other) refl)
    (err_then _ _ c.args.outer _ (λ o rest. (o, at_rest rest (seen c.args.r.now))) (d.pattern_at c.args.at c.args.r.now.rest)
    (λ p rest. Took (d.switch_operand p) rest) c.from_residual.ensures.1 c.in_err-p.ensures)
