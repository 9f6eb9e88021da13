use Rattle.drv_cc.proofs.sides.add_own_base.Goals as goal
use Rattle.drv_cc.specs.SideFiles.{suffix, unnamed_stem, with_value}
use Rattle.std.proofs.Common.{[], ◌∷◌, ◌++◌, ◌∙◌, ap, append_assoc, codes}
use Rattle.std.proofs.lemmas.Result.{on_ok_weaker}

-- Two words were added one after the other: the base is made of stem and suffix, and the suffix follows.
pub returns : goal.returns
returns c =
    on_ok_weaker c.add_value.result
    (λ is.
    is ∙ ap (λ end. c.add_parts.new.words ++ with_value (codes "--gdrv-ext=") end) c.suffix-2.ensures
    ∙ ap (λ words. words ++ with_value (codes "--gdrv-ext=") (suffix c.args.name.now))
    (c.in_ok-add_parts.ensures ∙ ap (λ name. c.args.words.now ++ (codes "--gdrv-base=" ++ name ++ c.suffix.result.now) ∷ [])
    c.unnamed_stem.ensures
    ∙ ap (λ end. c.args.words.now ++ (codes "--gdrv-base=" ++ unnamed_stem c.args.items.now c.args.name.now ++ end) ∷ []) c.suffix.ensures)
    ∙ append_assoc c.args.words.now _ _)
    c.add_value.ensures
