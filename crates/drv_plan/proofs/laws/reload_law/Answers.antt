use Rattle.drv_plan.proofs.Reloaded.{denoted_doubled}
use Rattle.drv_plan.proofs.laws.reload_law.Goals as goal
use Rattle.drv_specs.specs.Dumping.{doubled}

pub returns : goal.returns
returns c plain F prefixes =
    (doubled c.args.set.now, c.reloads_over_itself.ensures plain F prefixes, λ G line seed. denoted_doubled G line c.args.set.now seed)
