use Rattle.drv_compile.proofs.machines.plain_items.Goals as goal
use Rattle.drv_compile.specs.Machines.{is_machine}
use Rattle.std.proofs.Common.{◌∙◌, ap, not, rules}
use Rattle.std.proofs.lemmas.Fn.{filter_same}
use Rattle.std.specs.List.{filter}

-- What `retain` keeps are the items that its test passes.
pub returns : goal.returns
returns c =
    c.from_vec.ensures ∙ filter_same _ (λ i. not (is_machine i.option)) _ (λ x b f k. search rules) _ _ c.retain.ensures.filtered
    ∙ ap (filter (λ i. not (is_machine i.option))) c.into_vec-plain.ensures
