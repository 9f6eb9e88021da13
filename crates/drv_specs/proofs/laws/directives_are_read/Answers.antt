use Rattle.drv_specs.proofs.ReadLines.{is_read_law}
use Rattle.drv_specs.proofs.laws.directives_are_read.Goals as goal

pub returns : goal.returns
returns c = is_read_law
