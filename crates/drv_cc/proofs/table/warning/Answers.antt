use Rattle.drv_cc.proofs.table.warning.Goals as goal
use Rattle.drv_cc.specs.Table.{warnings}

pub returns : goal.returns
unfolding warnings
returns c = c.row_among.ensures
