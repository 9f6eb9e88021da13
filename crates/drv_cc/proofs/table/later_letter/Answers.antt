use Rattle.drv_cc.proofs.table.later_letter.Goals as goal
use Rattle.drv_cc.specs.Table.{later_letters}

pub returns : goal.returns
unfolding later_letters
returns c = c.row_among.ensures
