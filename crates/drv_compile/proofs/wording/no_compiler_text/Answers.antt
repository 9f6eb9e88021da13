use Rattle.drv_compile.proofs.wording.no_compiler_text.Goals as goal
use Rattle.drv_compile.specs.Texts.{unwritten_text}
use Rattle.std.proofs.Common.{◌≡◌, ◌∙◌, IfOk, codes, subst}

-- Names: `unwritten_text`: a file that this command writes, and that is not there or is not what it writes.

pub returns : goal.returns
returns c =
    subst
    (λ path. IfOk c.unwritten_text.result (λ text. text ≡ unwritten_text c.args.calling.now.name
    (codes "no compiler is named by '") path c.args.specs.now c.args.calling.now.machine))
    (c.as_bytes.ensures ∙ c.in_ok-path.ensures) c.unwritten_text.ensures
