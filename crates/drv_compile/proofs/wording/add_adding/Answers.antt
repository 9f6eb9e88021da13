use Rattle.drv_compile.proofs.Joined.{joined}
use Rattle.drv_compile.proofs.wording.add_adding.Goals as goal
use Rattle.drv_compile.specs.Texts.{quoted}
use Rattle.std.proofs.Common.{◌++◌, ◌∙◌, ap, codes}
use Rattle.std.proofs.lemmas.Result.{on_ok_weaker}

-- Three texts were added one after another; `joined` adds them together, as the definition has it.
pub returns : goal.returns
returns c =
    on_ok_weaker c.extend_from_slice-2.result
    (λ is.
    is ∙ ap (λ text. text ++ codes "' asks the compiler for them") c.in_ok-extend_from_slice.ensures.ok
    ∙ ap (λ text. (text ++ c.args.options.now) ++ codes "' asks the compiler for them") c.in_ok-add.ensures
    ∙ joined c.args.text.now (quoted (codes "'gdrv-write-specs --add ") c.args.specs.now (codes " ")) c.args.options.now
    (codes "' asks the compiler for them"))
    c.extend_from_slice-2.ensures.ok
