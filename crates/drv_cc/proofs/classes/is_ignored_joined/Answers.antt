use Rattle.drv_cc.proofs.classes.is_ignored_joined.Goals as goal
use Rattle.drv_cc.specs.Table.{ignored}

pub returns : goal.returns
unfolding ignored
returns c = c.has_joined.ensures
