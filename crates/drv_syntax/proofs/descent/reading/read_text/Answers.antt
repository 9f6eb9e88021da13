use Rattle.drv_syntax.proofs.Taken.{gives_err, ok_same}
use Rattle.drv_syntax.proofs.WholeGiven.{from_start}
use Rattle.drv_syntax.proofs.descent.reading.read_text.Goals as goal
use Rattle.std.proofs.Common.{sym, ◌∙◌}

-- Names: `ok_same`: the values of two equal results are equal. `gives_err`: code that passes on the fault of a part meets its clause.
-- `from_start`: a text that is read from its start.

-- no memory for the tokens
pub returns-in_err-tokens : goal.returns-in_err-tokens
returns-in_err-tokens c =
    gives_err _ _ c.from_residual.ensures.1 c.in_err-tokens.ensures
    (λ h. absurd cc)

-- no memory for the labels
pub returns-in_err-labels : goal.returns-in_err-labels
returns-in_err-labels c =
    gives_err _ _ c.from_residual-in_err-labels.ensures.1 c.in_err-labels.ensures
    (λ h. absurd cc)

-- the text has a fault
pub returns-in_err-r : goal.returns-in_err-r
returns-in_err-r c =
    gives_err _ _ c.from_residual-in_err-r.ensures.1 c.in_err-r.ensures
    (λ h. sym (from_start c.args.text.now c.in_ok-tokens.tokens c.in_ok-labels.labels (ok_same c.in_ok-tokens.ensures)
    (ok_same c.in_ok-labels.ensures)) ∙ h)

-- the text is read, and what is kept of it takes no more room than it fills
pub returns : goal.returns
returns c =
    let read = sym (from_start c.args.text.now c.in_ok-tokens.tokens c.in_ok-labels.labels (ok_same c.in_ok-tokens.ensures)
    (ok_same c.in_ok-labels.ensures)) ∙ c.in_ok-r.ensures in
    let tokens = c.shrink.ensures in
    let labels = c.shrink-2.ensures in rw tokens (rw labels read)
