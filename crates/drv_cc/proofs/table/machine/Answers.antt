use Rattle.drv_cc.proofs.table.machine.Goals as goal
use Rattle.drv_cc.specs.Table.{machines}

pub returns : goal.returns
unfolding machines
returns c = c.row_among.ensures
