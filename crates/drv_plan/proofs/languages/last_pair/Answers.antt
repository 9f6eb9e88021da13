use Rattle.drv_plan.proofs.LastTexts.{pair_at, text_found}
use Rattle.drv_plan.proofs.languages.last_pair.Goals as goal
use Rattle.drv_plan.specs.Languages.{pair_meaning}
use Rattle.drv_plan.specs.Code.Looking.{fits}
use Rattle.drv_specs.specs.Sets.{is_no_text, worked_text}
use Rattle.std.proofs.Common.{◌∙◌, None, Some, ap, if◌then◌else◌, option_and_then, sym}

-- Names: `pair_at`: the pair at an index, by another name for the same list. `text_found`: the text of the last pair that fits, as the
-- meaning of that pair. `pair_meaning`: what the text of a pair means.

-- the tree at the place of the pair is that of its text
pub pair_meaning-requires : goal.pair_meaning-requires
pair_meaning-requires c =
    c.pair_tree.ensures
    ∙ ap (option_and_then worked_text)
    (pair_at c.pairs-2.result.now c.args.set.now.pairs c.in_ok-place.place c.in_ok-text.field-0.now c.pairs-2.ensures
    c.in_ok-text.ensures.lookup.3.0 c.in_ok-text.ensures.lookup.1)
    ∙ ap (λ text. if is_no_text text then None else Some text) (sym c.as_bytes.ensures)

-- and its meaning is that of the last pair that fits
pub returns : goal.returns
returns c =
    ap Some (c.pair_meaning.ensures ∙ ap pair_meaning c.as_bytes.ensures)
    ∙ sym (text_found (fits c.args.wanted) c.args.set.now c.pairs.result.now c.pairs-2.result.now c.in_ok-place.place
    c.in_ok-text.field-0.now
    c.pairs.ensures c.pairs-2.ensures c.in_ok-text.ensures.lookup.3.0 c.in_ok-text.ensures.lookup.1 c.in_ok-place.ensures)
