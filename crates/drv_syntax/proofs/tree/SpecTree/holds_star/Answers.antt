use Rattle.drv_syntax.proofs.TreeLists.{label_within}
use Rattle.drv_syntax.proofs.tree.SpecTree.holds_star.Goals as goal
use Rattle.drv_syntax.specs.Parsed.{tree_of}

-- the place of a token is that of a label
pub holds_star-requires : goal.holds_star-requires
holds_star-requires c = label_within (tree_of c.args.self.now) c.args.place c.labels.result.now c.labels.ensures c.requires
