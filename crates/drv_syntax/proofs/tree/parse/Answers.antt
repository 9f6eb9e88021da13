use Rattle.drv_syntax.proofs.Kept.{first_refused, whole_kept}
use Rattle.drv_syntax.proofs.tree.parse.Goals as goal
use Rattle.drv_syntax.specs.Code.Parts.{IsRead}
use Rattle.std.proofs.Common.{arith, subst, sym}

-- Names: `first_refused`: where `parse` fails, memory ran out or the grammar refuses the text for this fault. `whole_kept`: the tokens and
-- labels that the code gives are those of the text.

-- a text that can't be read is refused by the grammar
pub returns-in_err-read-clause-refused : goal.returns-in_err-read-clause-refused
returns-in_err-read-clause-refused c =
    first_refused c.args.text.now (omega (arith, c.if-text-gt-TEXT_LIMIT.false)) c.from_residual.result c.in_err-read.field-0.0
    c.from_residual.ensures.1 c.in_err-read.ensures

-- what was read is kept of this text
pub invariant_of-result : goal.invariant_of-result
invariant_of-result c =
    subst (λ t. IsRead t c.in_ok-read.read) (sym c.in_ok-text.ensures.items)
    (whole_kept c.args.text.now (omega (arith, c.if-text-gt-TEXT_LIMIT.false)) c.in_ok-read.read c.in_ok-read.ensures)
