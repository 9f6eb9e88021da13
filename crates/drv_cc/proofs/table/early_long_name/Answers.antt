use Rattle.drv_cc.proofs.table.early_long_name.Goals as goal
use Rattle.drv_cc.specs.Table.{long_names}

pub returns : goal.returns
unfolding long_names
returns c = c.row_among.ensures
