use Rattle.drv_specs.proofs.Left.{held_left, none_of, text_found}
use Rattle.drv_specs.proofs.named_texts.text_at.Goals as goal
use Rattle.std.proofs.Common.{◌∙◌, None, ap, is_some, sym}
use Rattle.std.specs.Map.Iter.{deref_pair}
use Rattle.std.specs.Option.{option_flatten, option_map}

-- Names: `text_found`: the text that the code finds at the place of a name is that of the name. `held_left`: a name whose first entry has a
-- text has this text.

-- the name has no entry, so it has no text
pub returns-in_default : goal.returns-in_default
returns-in_default c = sym (held_left c.args.name.now None c.args.kept.now.entries
    (none_of _ (sym c.get_index_of.ensures.found ∙ ap is_some c.in_default.is)) tt)

-- its entry is of a name that was deleted: no text
pub returns-in_default-get_index : goal.returns-in_default-get_index
returns-in_default-get_index c =
    sym (text_found c.args.name.now c.args.kept.now.entries c.in-Some.place _ c.in-Some.ensures.unique c.in-Some.ensures.value
    c.get_index.ensures.entry
    ∙ ap (λ found. option_flatten (option_map (λ e. e.1) (option_map deref_pair found))) c.in_default-get_index.is)

-- its entry has a text, and that is the one of the name
pub returns : goal.returns
returns c =
    c.as_ref.ensures.value
    ∙ sym (text_found c.args.name.now c.args.kept.now.entries c.in-Some.place _ c.in-Some.ensures.unique c.in-Some.ensures.value
    c.get_index.ensures.entry
    ∙ ap (λ found. option_flatten (option_map (λ e. e.1) (option_map deref_pair found))) c.in-Some-get_index.is)
