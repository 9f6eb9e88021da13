use Rattle.drv_syntax.proofs.Refusals.{misfit_at, misfit_refused}
use Rattle.drv_syntax.proofs.laws.refused_at_misfit.Goals as goal

-- Names: `misfit_at`: where Descent refuses a text, its byte is the first that does not fit. `misfit_refused`: where a byte follows the
-- longest prefix that is a front, Descent refuses the text at that byte.

-- a text that is refused at a place has its first misfit there
pub returns-clause-refused : goal.returns-clause-refused
returns-clause-refused c = misfit_at

-- a text with its first misfit at a place is refused there
pub returns-clause-misfit : goal.returns-clause-misfit
returns-clause-misfit c = misfit_refused
