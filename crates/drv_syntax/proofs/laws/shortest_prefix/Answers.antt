use Rattle.drv_syntax.proofs.Refusals.{refused_fronts}
use Rattle.drv_syntax.proofs.laws.shortest_prefix.Goals as goal

-- a refused text is refused at the end of its shortest prefix that is no front
pub returns : goal.returns
returns c = refused_fronts
