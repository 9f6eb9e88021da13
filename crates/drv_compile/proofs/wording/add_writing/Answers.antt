use Rattle.drv_compile.proofs.Joined.{joined}
use Rattle.drv_compile.proofs.wording.add_writing.Goals as goal
use Rattle.drv_compile.specs.Texts.{gcc_of, quoted}
use Rattle.std.proofs.Common.{◌++◌, ◌∙◌, ap, codes}
use Rattle.std.proofs.lemmas.Result.{on_ok_weaker}

-- Three texts were added one after another; `joined` adds them together, as the definition has it.
pub returns : goal.returns
returns c =
    let before = quoted (codes "'gdrv-write-specs -o ") c.args.specs.now (codes " ") in
    on_ok_weaker c.extend_from_slice-2.result
    (λ is.
    is ∙ ap (λ text. text ++ codes "' writes it") c.in_ok-extend_from_slice.ensures.ok
    ∙ ap (λ text. (text ++ c.gcc_of.result.now) ++ codes "' writes it") c.in_ok-add.ensures
    ∙ ap (λ gcc. ((c.args.text.now ++ before) ++ gcc) ++ codes "' writes it") c.gcc_of.ensures
    ∙ joined c.args.text.now before (gcc_of c.args.specs.now c.args.machine.now) (codes "' writes it"))
    c.extend_from_slice-2.ensures.ok
