use Rattle.drv_gcc.proofs.Halves.{all_found}
use Rattle.drv_gcc.proofs.halving.halves_find_all.Goals as goal

pub returns : goal.returns
returns c = all_found
