use Rattle.drv_match.proofs.ByName.{block_of_any}
use Rattle.drv_match.proofs.switches.Switches.block.Goals as goal

-- the block that was found by the order is the pattern's
pub returns : goal.returns
returns c = λ order o. block_of_any c.args.self.now c.self.inside.names order c.deref.result.now _ c.args.pattern.now _ _ c.self.view_is
    c.deref.ensures.value c.self.invariant.in_order o c.block_of.ensures
