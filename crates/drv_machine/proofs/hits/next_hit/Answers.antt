use Rattle.drv_machine.proofs.ChoiceSteps.{next_finds, next_within}
use Rattle.drv_machine.proofs.hits.next_hit.Goals as goal
use Rattle.drv_machine.specs.Code.Running.{reached}

-- Names: `n`: how many items were reached. `F`: what is known of the outside. `levels`: what items mean after each part that may still be
-- opened. `is`: the clause's equation. `next_finds`: the next hit that the code finds is that of the definition. `next_within`: the next
-- switch that is hit is one of the line, from this place on.

-- the switch that is found is on the line, from the place on
pub returns-clause-within : goal.returns-clause-within
returns-clause-within c = next_within c.args.context.now c.switches.result.now c.hidden.result.now c.args.pattern.now c.args.from
    c.next_hit.result c.switches.ensures c.next_hit.ensures

-- no switch before the one that is found is hit, so they give nothing
pub returns-clause-finds : goal.returns-clause-finds
returns-clause-finds c n F p items levels is =
    next_finds F c.args.context.now p items levels (reached n c.args.machine.now) c.switches.result.now c.hidden.result.now
    c.args.pattern.now c.args.from c.next_hit.result c.switches.ensures c.hidden.ensures is c.next_hit.ensures
