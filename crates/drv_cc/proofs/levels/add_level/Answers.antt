use Rattle.drv_cc.proofs.levels.add_level.Goals as goal
use Rattle.std.proofs.Common.{[], ◌∷◌, ◌++◌, ◌∙◌, ap, append_assoc, codes}
use Rattle.std.proofs.lemmas.Result.{on_ok_weaker}

pub returns : goal.returns
returns c =
    on_ok_weaker c.add_joined-2.result
    (λ is. is ∙ ap (λ words. words ++ (codes "--gdrv-dwarf=" ++ c.args.version ∷ []) ∷ []) c.in_ok-add_joined.ensures
    ∙ append_assoc c.args.words.now _ _)
    c.add_joined-2.ensures
