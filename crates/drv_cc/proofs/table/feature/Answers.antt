use Rattle.drv_cc.proofs.table.feature.Goals as goal
use Rattle.drv_cc.specs.Table.{features}

pub returns : goal.returns
unfolding features
returns c = c.row_among.ensures
