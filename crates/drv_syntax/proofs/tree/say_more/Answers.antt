use Rattle.drv_syntax.proofs.Kept.{read_spelled, said_kept}
use Rattle.drv_syntax.proofs.tree.say_more.Goals as goal
use Rattle.std.proofs.Common.{◌∙◌}

-- Names: `read_spelled`: a text that was read has its tree by the grammar. `said_kept`: what is kept of a text that goes on in a message.

-- the kept parts with the longer message are the whole text's, which goes on in it
pub invariant_of-result : goal.invariant_of-result
invariant_of-result c = said_kept c.args.text.items c.args.more.now c.extend_from_slice.new.self.items c.args.old c.in_ok-read.read
    c.len.result c.requires.kept c.requires.open c.requires.says c.requires.size c.in_ok-extend_from_slice.ensures.items
    (c.len.ensures ∙ c.extend_from_slice.new.self.ok.0) c.in_ok-read.ensures

-- the tree of the whole text is one by the grammar
pub returns-clause-spelled : goal.returns-clause-spelled
returns-clause-spelled c = read_spelled c.extend_from_slice.new.self.items c.in_ok-read.read (invariant_of-result c).0
