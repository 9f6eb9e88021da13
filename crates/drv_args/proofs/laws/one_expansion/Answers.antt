use Rattle.drv_args.proofs.OneExpansion.{refused_once, responds_alone, responds_once}
use Rattle.drv_args.proofs.laws.one_expansion.Goals as goal

-- Names: `refused_once`: words are refused for one reason. `responds_alone`: words that expand are not refused.

pub returns-clause-responds : goal.returns-clause-responds
returns-clause-responds c = responds_once

pub returns-clause-refused : goal.returns-clause-refused
returns-clause-refused c = refused_once

pub returns-clause-never_both : goal.returns-clause-never_both
returns-clause-never_both c = responds_alone
