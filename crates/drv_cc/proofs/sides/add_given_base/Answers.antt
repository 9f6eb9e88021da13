use Rattle.drv_cc.proofs.sides.add_given_base.Goals as goal
use Rattle.drv_cc.specs.SideFiles.{end_words, given_end}
use Rattle.std.proofs.Common.{◌++◌, ◌∙◌, ap, append_assoc}
use Rattle.std.proofs.lemmas.Result.{on_ok_weaker}

-- Two words were added one after the other: the base, and then its end.
pub returns : goal.returns
returns c =
    on_ok_weaker c.add_end.result
    (λ is.
    is ∙ ap (λ end. c.add_joined.new.words ++ end_words c.args.given.now end) c.given_end.ensures
    ∙ ap (λ words. words ++ end_words c.args.given.now (given_end c.args.items.now)) c.in_ok-add_joined.ensures
    ∙ append_assoc c.args.words.now _ _)
    c.add_end.ensures
