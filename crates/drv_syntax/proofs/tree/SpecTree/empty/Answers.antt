use Rattle.drv_syntax.proofs.Kept.{nothing_kept}
use Rattle.drv_syntax.proofs.tree.SpecTree.empty.Goals as goal

-- the text without bytes has no token and no label
pub invariant_of-result : goal.invariant_of-result
invariant_of-result c =
    nothing_kept c.new.result.items c.read_nothing.result c.new.ensures.items c.read_nothing.ensures.tokens c.read_nothing.ensures.labels
