use Rattle.drv_cc.proofs.LevelLaws.{first_level, first_toggle, first_version, last_level, last_toggle, last_version}
use Rattle.drv_cc.proofs.laws.last_level_counts.Goals as goal

-- Names: `first_level`: the clause `no_level`. `first_toggle`: the clause `no_toggle`.

pub returns-clause-level : goal.returns-clause-level
returns-clause-level c = last_level

pub returns-clause-no_level : goal.returns-clause-no_level
returns-clause-no_level c = first_level

pub returns-clause-version : goal.returns-clause-version
returns-clause-version c = last_version

pub returns-clause-no_version : goal.returns-clause-no_version
returns-clause-no_version c = first_version

pub returns-clause-toggle : goal.returns-clause-toggle
returns-clause-toggle c = last_toggle

pub returns-clause-no_toggle : goal.returns-clause-no_toggle
returns-clause-no_toggle c = first_toggle
