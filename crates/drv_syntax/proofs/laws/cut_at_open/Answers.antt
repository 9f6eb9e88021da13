use Rattle.drv_syntax.proofs.ParsedGrammar.{cut_at, cut_there}
use Rattle.drv_syntax.proofs.laws.cut_at_open.Goals as goal

-- Names: `cut_at`: where Descent says that a text is cut short. `cut_there`: where by the grammar a text is cut short and open at this
-- place, Descent says so.

-- a text that is cut short leaves something open at the place that is named
pub returns-clause-cut : goal.returns-clause-cut
returns-clause-cut c = cut_at

-- a text that leaves something open there is cut at that place
pub returns-clause-open : goal.returns-clause-open
returns-clause-open c = cut_there
