use Rattle.drv_cc.proofs.table.letter.Goals as goal
use Rattle.drv_cc.specs.Table.{letters}

pub returns : goal.returns
unfolding letters
returns c = c.row_among.ensures
