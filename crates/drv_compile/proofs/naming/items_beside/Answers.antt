use Rattle.drv_compile.proofs.Names.{items_known}
use Rattle.drv_compile.proofs.naming.items_beside.Goals as goal

pub returns-clause-items : goal.returns-clause-items
returns-clause-items g c words is F e =
    items_known F c.args.specs.now c.in_ok-path.path words c.items_at.result c.in_ok-path.ensures (c.items_at.ensures.items words is F e)
