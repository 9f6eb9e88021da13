use Rattle.drv_specs.proofs.Left.{text_noted}
use Rattle.drv_specs.proofs.named_texts.text_there.Goals as goal
use Rattle.std.proofs.Common.{◌∙◌, sym}

pub returns-in-Some : goal.returns-in-Some
returns-in-Some c = text_noted c.as_ref.result (λ text. text.now) c.args.name.now c.as_slice.result.now c.in-Some.key.now
    c.in-Some.text.now c.args.kept.now.entries c.in-Some.ensures.value c.as_slice.ensures.value
    (sym c.eq.ensures ∙ c.if-eq.true) c.as_ref.ensures.value
