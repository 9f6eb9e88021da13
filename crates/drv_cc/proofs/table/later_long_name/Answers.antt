use Rattle.drv_cc.proofs.table.later_long_name.Goals as goal
use Rattle.drv_cc.specs.Table.{later_long_names}

pub returns : goal.returns
unfolding later_long_names
returns c = c.row_among.ensures
