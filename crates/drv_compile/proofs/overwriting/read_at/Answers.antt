use Rattle.drv_compile.proofs.FirstRead.{asked_at}
use Rattle.drv_compile.proofs.overwriting.read_at.Goals as goal
use Rattle.std.proofs.Common.{◌∙◌, None, Some, ap, if◌then◌else◌, sym}

pub returns-then-is_at : goal.returns-then-is_at
returns-then-is_at g c =
    asked_at c.args.path.now c.args.file.now c.in_ok-answer.answer _ _ _ c.in_ok-answer.ensures.event
    (sym (ap (λ b. if b then Some c.args.file.now.read_as else None) (sym c.is_at.ensures ∙ c.if-is_at.true)))

pub returns : goal.returns
returns g c =
    asked_at c.args.path.now c.args.file.now c.in_ok-answer.answer _ _ _ c.in_ok-answer.ensures.event
    (sym (ap (λ b. if b then Some c.args.file.now.read_as else None) (sym c.is_at.ensures ∙ c.if-is_at.false)))
