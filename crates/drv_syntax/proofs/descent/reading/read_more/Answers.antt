use Rattle.drv_syntax.proofs.Taken.{gives_err}
use Rattle.drv_syntax.proofs.descent.reading.read_more.Goals as goal

-- Names: `gives_err`: code that passes on the fault of a part meets its clause.

-- the rest of the text has a fault
pub returns-in_err-r : goal.returns-in_err-r
returns-in_err-r c =
    gives_err _ _ c.from_residual.ensures.1 c.in_err-r.ensures
    (λ h. h)

-- the rest of the text is read
pub returns : goal.returns
returns c = c.in_ok-r.ensures
