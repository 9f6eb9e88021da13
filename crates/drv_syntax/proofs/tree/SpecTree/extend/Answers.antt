use Rattle.drv_syntax.proofs.Kept.{kept_there, read_of, read_spelled, refused_more, tree_there}
use Rattle.drv_syntax.proofs.ParsedGrammar.{given_refused, long_refused}
use Rattle.drv_syntax.proofs.tree.SpecTree.extend.Goals as goal
use Rattle.drv_syntax.specs.Code.Ending.{ending_in, goes_on}
use Rattle.std.proofs.Common.{◌∙◌, ◌++◌, ap, arith, inr, length, length-append, sym}

-- Names: `read_of`: what is kept of a text that was read is its tokens and labels. `ending_in`: how a text of this size ends, by its last
-- token. `goes_on`: whether what was read can be kept where this follows it. `kept_there`: where `extended` succeeds, its tokens and labels
-- are those of both texts together.

-- what follows the kept parts has a fault: it is that of the whole text
pub returns-in_err-read-clause-tree : goal.returns-in_err-read-clause-tree
returns-in_err-read-clause-tree c =
    refused_more c.self.inside.text.items c.args.self c.args.more.now c.extend_from_slice.new.self.items (length c.text-start.result.now)
    c.in-Read.old
    (read_of c.self.inside.text.items c.in-Read.is c.self.invariant) c.self.view_is
    (ap length c.text-start.ensures) (omega (arith, c.if-more-start.false))
    (ap (λ e. goes_on e c.args.more.now)
    (sym (c.ending_in.ensures ∙ ap (λ ts. ending_in (length c.text-start.result.now) ts) c.as_slice.ensures))
    ∙ sym c.if-not-goes_on.ensures)
    c.from_residual-in_err-read.result c.in_err-read.field-0.0 c.from_residual-in_err-read.ensures.1 c.in_err-read.ensures

-- the kept parts and those that were read are the whole text's
pub invariant_of-result : goal.invariant_of-result
invariant_of-result c =
    kept_there c.self.inside.text.items c.args.self c.args.more.now c.extend_from_slice.new.self.items (length c.text-start.result.now)
    c.in-Read.old
    (read_of c.self.inside.text.items c.in-Read.is c.self.invariant) c.self.view_is
    (ap length c.text-start.ensures) (omega (arith, c.if-more-start.false))
    (ap (λ e. goes_on e c.args.more.now)
    (sym (c.ending_in.ensures ∙ ap (λ ts. ending_in (length c.text-start.result.now) ts) c.as_slice.ensures))
    ∙ sym c.if-not-goes_on.ensures)
    c.in_ok-read.read c.in_ok-extend_from_slice.ensures.items c.in_ok-read.ensures

-- the kept parts and those that were read are the tree of the whole text
pub returns-clause-tree : goal.returns-clause-tree
returns-clause-tree c =
    tree_there c.self.inside.text.items c.args.self c.args.more.now c.extend_from_slice.new.self.items (length c.text-start.result.now)
    c.in-Read.old
    (read_of c.self.inside.text.items c.in-Read.is c.self.invariant) c.self.view_is
    (ap length c.text-start.ensures) (omega (arith, c.if-more-start.false))
    (ap (λ e. goes_on e c.args.more.now)
    (sym (c.ending_in.ensures ∙ ap (λ ts. ending_in (length c.text-start.result.now) ts) c.as_slice.ensures))
    ∙ sym c.if-not-goes_on.ensures)
    c.in_ok-read.read c.in_ok-extend_from_slice.ensures.items c.in_ok-read.ensures

-- the whole text is too long
pub returns-then-more-start-clause-refused : goal.returns-then-more-start-clause-refused
returns-then-more-start-clause-refused c =
    inr (long_refused (c.args.self ++ c.args.more.now)
    (omega (arith, length-append c.args.self c.args.more.now, c.if-more-start.true, ap length c.text-start.ensures)))

-- what follows the kept parts is refused: the whole text is, by the grammar
pub returns-in_err-read-clause-refused : goal.returns-in_err-read-clause-refused
returns-in_err-read-clause-refused c =
    given_refused (c.args.self ++ c.args.more.now) c.from_residual-in_err-read.result (returns-in_err-read-clause-tree c)

-- the tree of the whole text is one by the grammar
pub returns-clause-spelled : goal.returns-clause-spelled
returns-clause-spelled c = read_spelled c.extend_from_slice.new.self.items c.in_ok-read.read (invariant_of-result c)
