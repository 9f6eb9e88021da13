use Rattle.drv_cc.proofs.sides.add_named_dependencies.Goals as goal
use Rattle.std.proofs.Common.{[], ◌∷◌, ◌++◌, ◌∙◌, ap, codes}
use Rattle.std.proofs.lemmas.Result.{on_ok_weaker}

pub returns : goal.returns
returns c =
    on_ok_weaker c.add_joined.result
    (λ is. is ∙ ap (λ file. c.args.words.now ++ (codes "--gdrv-dep=" ++ file) ∷ []) (c.as_bytes.ensures ∙ c.in_ok-file.ensures))
    c.add_joined.ensures
