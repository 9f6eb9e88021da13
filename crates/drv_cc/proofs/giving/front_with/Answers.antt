use Rattle.drv_cc.proofs.GivenAnswers.{refuses_with, runs_with}
use Rattle.drv_cc.proofs.giving.front_with.Goals as goal
use Rattle.drv_cc.specs.SelfSpecs.{given_items, given_refusals}
use Rattle.std.proofs.Common.{◌∙◌, ap, rules}

-- Names: `runs_with`, `refuses_with`: the answer where nothing is refused, and where something is. Behind what is given `runs_with` takes
-- the items, the line that is left, what is given more, and the result (`_`: the prover finds these four). Then it takes that nothing is
-- refused (`search rules`), and that the three lists are the definition's.

-- Something that the spec files give is refused: the answer is those refusals.
pub returns-then-not-is_empty : goal.returns-then-not-is_empty
returns-then-not-is_empty c =
    refuses_with c.args.names.now.known.now c.args.names.now.named.now c.args.args.now c.args.around.now c.args.given.now
    c.in_ok-refused.refused
    (c.in_ok-refused.ensures ∙ ap (given_refusals c.args.names.now.named.now) (c.as_slice-2.ensures ∙ c.in_ok-more.ensures
    ∙ ap (given_items c.args.names.now.known.now) c.as_slice.ensures))
    (search rules)

-- The refusals are those of what is given, and the call is made of the items that are left and of those given.
pub returns : goal.returns
returns c =
    runs_with c.args.names.now.known.now c.args.names.now.named.now c.args.args.now c.args.around.now c.args.given.now
    c.in_ok-refused.refused
    (c.in_ok-refused.ensures ∙ ap (given_refusals c.args.names.now.named.now) (c.as_slice-2.ensures ∙ c.in_ok-more.ensures
    ∙ ap (given_items c.args.names.now.known.now) c.as_slice.ensures))
    _ _ _ _ (search rules) (c.as_slice-3.ensures ∙ c.in_ok-items.ensures) c.as_slice-left.ensures
    (c.as_slice-4.ensures ∙ c.in_ok-more.ensures ∙ ap (given_items c.args.names.now.known.now) c.as_slice.ensures) c.run_left.ensures
