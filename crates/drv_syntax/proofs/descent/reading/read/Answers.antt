use Rattle.drv_syntax.proofs.Taken.{gives_err, then_ok}
use Rattle.drv_syntax.proofs.WholeGiven.{rest_given_by, written}
use Rattle.drv_syntax.proofs.descent.reading.read.Goals as goal
use Rattle.std.proofs.Common.{ap, ◌∙◌}

-- Names: `then_ok`: a result and what follows it, unless it is a fault. `rest_given_by`: the rest of a text gives what its items give, as
-- the list that a whole text is.

-- the items have a fault
pub returns-in_err-items : goal.returns-in_err-items
returns-in_err-items c =
    gives_err _ _ c.from_residual.ensures.1 c.in_err-items.ensures.list
    (λ h. rest_given_by c.args.start c.args.more.now c.args.tokens c.args.labels c.new.result c.new.ensures ∙ ap (λ r. then_ok r written) h)

-- the items are read to the end of the text
pub returns : goal.returns
returns c = rest_given_by c.args.start c.args.more.now c.args.tokens c.args.labels c.new.result c.new.ensures
    ∙ ap (λ r. then_ok r written) c.in_ok-items.ensures.list
