use Rattle.drv_specs.proofs.Left.{left_unlisted, left_without}
use Rattle.drv_specs.proofs.named_texts.clear_text.Goals as goal
use Rattle.drv_specs.specs.Code.Keyed.{texts_left}
use Rattle.std.proofs.Common.{◌∙◌, None, ap, sym}
use Rattle.std.specs.Option.{option_copied_mut}

-- Names: `texts_left`: the named texts of a map, without the deleted ones. `left_unlisted`: the removal of a name without an entry changes
-- nothing.

pub returns-in-Some : goal.returns-in-Some
returns-in-Some c = ap texts_left (c.get_mut.follows.holds None).0
    ∙ left_without c.args.name.now c.args.kept.now.entries c.get_mut.ensures.unique

pub returns-in-None : goal.returns-in-None
returns-in-None c =
    ap (λ m. texts_left m.entries) c.get_mut.follows.holds-at-none
    ∙ left_unlisted c.args.name.now c.args.kept.now.entries (sym c.get_mut.ensures.value ∙ ap option_copied_mut c.in-None.is)
