use Rattle.drv_cc.proofs.quoting.add_piece_variable.Goals as goal
use Rattle.drv_cc.specs.Front.{variable}
use Rattle.std.proofs.Common.{[], ◌∷◌, ◌++◌, ◌∙◌, ap, codes}
use Rattle.std.proofs.lemmas.Result.{on_ok_weaker}

-- Names: `variable`: a variable of the environment, by its name and value.

pub returns : goal.returns
returns c =
    on_ok_weaker c.add_variable.result
    (λ is. is ∙ ap (λ value. c.args.children.now ++ variable (codes "COLLECT_AS_OPTIONS") value ∷ []) c.in_ok-pieces.ensures)
    c.add_variable.ensures
