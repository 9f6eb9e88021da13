use Rattle.drv_cc.proofs.Prefixes.{all_added}
use Rattle.drv_cc.proofs.line_adding.add_all_prefixes.Goals as goal
use Rattle.std.proofs.Common.{◌∙◌}
use Rattle.std.proofs.lemmas.Result.{on_ok_weaker}

-- The three lists that were added are those of the definition, in its order.
pub returns : goal.returns
returns c =
    on_ok_weaker c.add_prefixes-3.result
    (λ third_is.
    all_added c.args.around.now c.args.given.now c.add_prefixes.new.given c.add_prefixes-2.new.given c.add_prefixes-3.new.given
    c.as_slice.result.now c.as_slice-2.result.now c.as_slice-3.result.now
    (c.as_slice.ensures ∙ c.in_ok-named.ensures) c.as_slice-2.ensures c.as_slice-3.ensures c.in_ok-add_prefixes.ensures
    c.in_ok-add_prefixes-2.ensures third_is)
    c.add_prefixes-3.ensures
