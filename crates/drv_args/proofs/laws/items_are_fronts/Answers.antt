use Rattle.drv_args.proofs.FrontLaws.{offends_law, reads_law}
use Rattle.drv_args.proofs.laws.items_are_fronts.Goals as goal

-- Names: `offends_law`: both give the same refusals. `reads_law`: both give the same items.

pub returns-clause-reads : goal.returns-clause-reads
returns-clause-reads c = reads_law

pub returns-clause-offends : goal.returns-clause-offends
returns-clause-offends c = offends_law
