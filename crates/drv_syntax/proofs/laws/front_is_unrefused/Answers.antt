use Rattle.drv_syntax.proofs.WholeRead.{front_is_read}
use Rattle.drv_syntax.proofs.laws.front_is_unrefused.Goals as goal

-- a front is not refused
pub returns : goal.returns
returns c = front_is_read
