use Rattle.drv_cc.proofs.table.capital.Goals as goal
use Rattle.drv_cc.specs.Table.{capitals}

pub returns : goal.returns
unfolding capitals
returns c = c.row_among.ensures
