use Rattle.drv_machine.proofs.FailureFiles.{one_more}
use Rattle.drv_machine.proofs.machine.inside.Inside.open.Goals as goal

-- one more %W is open, in which no word has ended
pub returns : goal.returns
returns c = rw (← c.self.view_is) (one_more c.self.inside.last c.self.inside.count c.self.inside.fresh)
