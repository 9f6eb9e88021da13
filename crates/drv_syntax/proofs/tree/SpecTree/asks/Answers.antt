use Rattle.drv_syntax.proofs.TreeLists.{label_within}
use Rattle.drv_syntax.proofs.tree.SpecTree.asks.Goals as goal
use Rattle.drv_syntax.specs.Parsed.{tree_of}

-- the place of a token is that of a label
pub asks-requires : goal.asks-requires
asks-requires c = label_within (tree_of c.args.self.now) c.args.place c.labels.result.now c.labels.ensures c.requires
