use Rattle.drv_cc.proofs.classes.is_ignored.Goals as goal
use Rattle.drv_cc.specs.Table.{ignored}

pub returns : goal.returns
unfolding ignored
returns c = c.is_one_of.ensures
