use Rattle.drv_cc.proofs.classes.listed_class.Goals as goal
use Rattle.drv_cc.specs.Table.{classes}

pub returns : goal.returns
unfolding classes
returns c = c.class_among.ensures
