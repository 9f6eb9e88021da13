use Rattle.drv_specs.proofs.Left.{left_copied}
use Rattle.drv_specs.proofs.named_texts.NamedTexts.try_clone.Goals as goal
use Rattle.std.proofs.Common.{◌∙◌, rules}

pub returns : goal.returns
returns c = left_copied _ (λ x y alike. search rules) c.self.inside.kept.entries c.in_ok-clone.field-0.entries c.in_ok-clone.ensures.cases
    ∙ c.self.view_is
