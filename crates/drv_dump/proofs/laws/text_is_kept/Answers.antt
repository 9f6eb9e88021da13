use Rattle.drv_dump.proofs.Kept.{text_law}
use Rattle.drv_dump.proofs.laws.text_is_kept.Goals as goal

pub returns : goal.returns
returns c = text_law
