use Rattle.drv_match.proofs.ByName.{in_order, is_before, names_rank}
use Rattle.drv_match.proofs.sorting.places_by_name.Goals as goal
use Rattle.std.proofs.Common.{◌≡◌, arith, length, refl, rules}
use Rattle.std.proofs.lemmas.Fn.{always_returns_same}
use Rattle.std.proofs.lemmas.Iterator.{YieldsList-from_range, items_from_collect}
use Rattle.std.proofs.lemmas.Result.{IfOk-at_ok}
use Rattle.std.specs.List.{range_with_len}
use Rattle.std.specs.Ordering.{is_lt}

-- Names: `is_before`: the name at one place comes before the name at another. `names_rank`: the comparison of places by name alone is an
-- order to sort by.

-- a stable sort of all places by name is their order
pub returns : goal.returns
returns c =
    let all : c.in_ok-order.order.items ≡ range_with_len 0 (length c.args.names.now) =
    IfOk-at_ok (λ places. places.items ≡ range_with_len 0 (length c.args.names.now)) c.in_ok-order.was
    (items_from_collect _ c.collect.ensures.ran (YieldsList-from_range 0 c.len.result (length c.args.names.now) refl
    (omega (arith, c.len.ensures)))) in
    in_order c.args.names.now _ _ all c.in_ok-sort_by.ensures.permutation
    (c.in_ok-sort_by.ensures.sorted (is_before c.args.names.now) (names_rank c.args.names.now)
    (always_returns_same _ (λ a r. is_lt r ≡ is_before c.args.names.now a.0.now a.1.0.now) _ (λ a r q k. search rules)))
    (c.in_ok-sort_by.ensures.stable (is_before c.args.names.now) (names_rank c.args.names.now)
    (always_returns_same _ (λ a r. is_lt r ≡ is_before c.args.names.now a.0.now a.1.0.now) _ (λ a r q k. search rules)))
