use Rattle.drv_core.proofs.Outcomes.{rearranges, same_outcomes, starts_the_same}
use Rattle.drv_core.proofs.law.interleaving_law.Goals as goal

-- the run source by source
pub returns-clause-run : goal.returns-clause-run
returns-clause-run c = rearranges

-- its answers
pub returns-clause-answers : goal.returns-clause-answers
returns-clause-answers c = same_outcomes

-- its commands
pub returns-clause-commands : goal.returns-clause-commands
returns-clause-commands c = starts_the_same
