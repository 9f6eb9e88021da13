use Rattle.drv_run.proofs.OneEnding.{driven_alone, driven_once, refused_for_one}
use Rattle.drv_run.proofs.laws.one_ending.Goals as goal

-- Names: `driven_alone`: arguments that ask for a work are not refused. `driven_once`: arguments ask for one work, and no other.

pub returns-clause-driven : goal.returns-clause-driven
returns-clause-driven c = driven_once

pub returns-clause-refused : goal.returns-clause-refused
returns-clause-refused c = refused_for_one

pub returns-clause-never_both : goal.returns-clause-never_both
returns-clause-never_both c = driven_alone
