use Rattle.drv_system.proofs.FirstAnswers.{kinds_first, reads_first, variables_first}
use Rattle.drv_system.proofs.facts.first_answers_law.Goals as goal
use Rattle.drv_system.specs.Facts.{no_facts}

-- Names: `no_facts`: nothing is known yet. `reads_first`: after a journal the read of a path is known by the first event that reads it.

-- the bytes of a file: by the first answer for its path
pub returns-clause-reads : goal.returns-clause-reads
returns-clause-reads c events path = reads_first no_facts events path

-- the kind of a path: by the first answer for it
pub returns-clause-kinds : goal.returns-clause-kinds
returns-clause-kinds c events path = kinds_first no_facts events path

-- the value of a variable: by the first answer for its name
pub returns-clause-variables : goal.returns-clause-variables
returns-clause-variables c events name = variables_first no_facts events name
