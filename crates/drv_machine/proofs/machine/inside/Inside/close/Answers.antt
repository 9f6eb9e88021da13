use Rattle.drv_machine.proofs.FailureFiles.{ends_fresh, ends_last}
use Rattle.drv_machine.proofs.machine.inside.Inside.close.Goals as goal

-- Names: `ends_fresh`: the innermost %W ends, and no word ended in it. `ends_last`: the innermost %W ends, and a word ended in it.

-- a word ended in the innermost %W: it is the last one
pub returns-then-fresh-eq0 : goal.returns-then-fresh-eq0
returns-then-fresh-eq0 c = rw (← c.self.view_is) (ends_last c.self.inside.last c.in_ok-last.last c.self.inside.count c.self.inside.fresh
    c.if-count-eq0.false c.if-fresh-eq0.true c.in_ok-last.ensures.cases)

-- no word ended in the innermost %W
pub returns : goal.returns
returns c = rw (← c.self.view_is) (ends_fresh c.self.inside.last c.self.inside.count c.self.inside.fresh c.if-count-eq0.false
    c.if-fresh-eq0.false)
