use Rattle.drv_specs.proofs.Keeping.{file_loaded_keeps, loaded_keeps}
use Rattle.drv_specs.proofs.laws.loading_keeps.Goals as goal

-- Names: `file_loaded_keeps`: a file that is loaded keeps the invariant. `loaded_keeps`: a text that is loaded keeps the invariant.

pub returns-clause-texts : goal.returns-clause-texts
returns-clause-texts c = loaded_keeps

pub returns-clause-files : goal.returns-clause-files
returns-clause-files c = file_loaded_keeps
