use Rattle.drv_specs.proofs.Left.{left_renamed, unnamed}
use Rattle.drv_specs.proofs.named_texts.NamedTexts.rename.Goals as goal
use Rattle.std.proofs.Common.{◌∙◌, Some, ap, nat_eq, sym}
use Rattle.std.specs.Cmp.Lexicographic.{pointwise}
use Rattle.std.specs.Map.{lookup}
use Rattle.std.specs.Option.{option_copied}

-- Names: `left_renamed`: the code renames by a new entry, which it swaps into the place of the old one. `unnamed`: a rename of a name
-- without a text changes nothing.

pub returns-in_default : goal.returns-in_default
returns-in_default c = unnamed c.args.old.now c.args.new.now c.args.self.now
    (ap (lookup (pointwise nat_eq c.args.old.now)) (sym c.self.view_is) ∙ sym c.text_at.ensures ∙ ap option_copied c.in_default.is)

-- the text is put under the new name and then moved to the old one's place
pub returns : goal.returns
returns c =
    rw (← c.self.view_is) (left_renamed c.args.old.now c.args.new.now c.in_ok-text.text c.in_ok-key.key c.self.inside.kept.entries
    c.shift_remove.new.self.entries c.insert.new.self.entries c.swap_remove.new.self.entries
    (c.in_ok-key.ensures.items_if_clones_equal (λ x y e. e))
    (sym c.text_at.ensures ∙ ap option_copied c.in-Some.is ∙ ap Some (sym c.in_ok-text.ensures.cases))
    (ap (lookup (pointwise nat_eq c.args.new.now)) c.self.view_is ∙ c.requires)
    c.shift_remove.ensures.entries c.shift_remove.ensures.unique c.shift_remove.ensures.updates.1
    c.in_ok-insert.ensures.entries c.swap_remove.ensures.entries)
