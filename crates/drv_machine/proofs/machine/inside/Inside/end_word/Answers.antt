use Rattle.drv_machine.proofs.Ends.{all_ended}
use Rattle.drv_machine.proofs.machine.inside.Inside.end_word.Goals as goal
use Rattle.drv_machine.specs.Code.Held.{ended_in}
use Rattle.std.proofs.Common.{ap, ◌∙◌}

-- Names: `all_ended`: a word that ends is the last one in each open %W. `ended_in`: for each %W that is open the last word that ended in
-- it.

-- the word is the last one of each %W that is open
pub returns : goal.returns
returns c = rw (← c.self.view_is)
    (ap (λ word. ended_in word c.self.inside.count 0) c.in_ok-self-inside.ensures.cases
    ∙ all_ended c.self.inside.last c.args.word.now c.self.inside.count c.self.inside.fresh c.self.invariant)
