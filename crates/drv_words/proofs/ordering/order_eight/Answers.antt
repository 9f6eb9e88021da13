use Rattle.drv_words.proofs.Ordered.{eight_ordered}
use Rattle.drv_words.proofs.ordering.order_eight.Goals as goal
use Rattle.std.proofs.Common.{◌∙◌, rules}

-- Names: `eight_ordered`: eight bytes and the numbers that they spell.

-- eight bytes are ordered as the numbers that they spell
pub returns : goal.returns
returns c =
    c.cmp.ensures ∙ eight_ordered c.args.one.now c.args.other.now _ _ c.told-one c.told-other (search rules)
    (search rules) c.from_be_bytes-number.ensures c.from_be_bytes.ensures
