use Rattle.drv_cc.proofs.sides.add_aux_of.Goals as goal
use Rattle.drv_cc.specs.SideFiles.{beginning}
use Rattle.std.proofs.Common.{[], ◌∷◌, ◌++◌, ◌∙◌, ap, codes}
use Rattle.std.proofs.lemmas.Result.{on_ok_weaker}

-- The parts of the word are its beginning and the name without its end, as the definition has them.
pub returns : goal.returns
returns c =
    on_ok_weaker c.add_parts.result
    (λ is.
    is ∙ ap (λ front. c.args.words.now ++ (codes "--gdrv-aux=" ++ front ++ c.stem_of.result.now) ∷ [])
    (c.as_bytes.ensures ∙ c.in_ok-beginning.ensures)
    ∙ ap (λ name. c.args.words.now ++ (codes "--gdrv-aux=" ++ beginning c.args.items.now ++ name) ∷ []) c.stem_of.ensures)
    c.add_parts.ensures
