use Rattle.drv_match.proofs.ByName.{in_range}
use Rattle.drv_match.proofs.Lasts.{flags_all, flags_next, known_again, unturned}
use Rattle.drv_match.proofs.liveness.mark_live.Goals as goal
use Rattle.drv_match.proofs.liveness.mark_live.Goals.{else-k-eq0+else-ne, then-k-eq0+in_ok-first_live}
use Rattle.drv_match.specs.Code.Indexed.{IsLast}
use Rattle.drv_match.specs.Matching.{cancels, name_at}
use Rattle.std.proofs.Common.{◌≡◌, ◌<◌, ◌+◌, ◌-◌, ◌∙◌, arith, get_or, length, nat_eq, refl, sym}
use Rattle.std.specs.Cmp.Lexicographic.{pointwise}
use Rattle.std.proofs.lemmas.Grind.{common_steps}

-- Names: `in_range`: each item of the order is a place of the line. `name_at`: the name at a place. `flags_all`: at its end all flags are
-- right. `flags_next`: one step of the loop over the order.

-- each entry of the order is a place of the line
pub index_mut-requires : goal.index_mut-requires
index_mut-requires c =
    let within : get_or c.args.order.now c.loop-k.k 0 < length c.args.names.now =
    in_range c.args.names.now c.args.order.now c.requires.in_order c.loop-k.k 0 (omega arith) in
    grind (arith, common_steps)

-- one more flag is set: by the look-up for this name, or by that for the same name before
pub loop-k-preserved : goal.loop-k-preserved
loop-k-preserved c =
    let within : get_or c.args.order.now c.loop-k.k 0 < length c.args.names.now =
    in_range c.args.names.now c.args.order.now c.requires.in_order c.loop-k.k 0 (omega arith) in
    let known : IsLast (λ later. cancels later (name_at c.args.names.now (get_or c.args.order.now c.loop-k.k 0))) c.args.names.now
    c.if-k-eq0.first_live = elim c.if-k-eq0.branch [
      | then-k-eq0+in_ok-first_live w ↦ rw (w.first_live-is, ← c.get-name.ensures) w.in_ok-first_live.ensures
      | else-k-eq0+else-ne w ↦
          let some : 0 < c.loop-k.k = omega arith in
          rw w.first_live-is (known_again c.args.names.now (name_at c.args.names.now (get_or c.args.order.now (c.loop-k.k - 1) 0))
          c.get-name.result.now c.loop-k.first_live (get_or c.args.order.now c.loop-k.k 0) (c.loop-k.invariant.known some)
          (rw (← w.get.ensures) (unturned (pointwise nat_eq c.get-name.result.now w.get.result.now) (sym w.ne.ensures ∙ w.if-ne.false)))
          c.get-name.ensures)
    ] in
    record {
      as_many = grind (arith, common_steps);
      told = flags_next c.args.names.now c.args.order.now c.loop-k.flags.items _ c.loop-k.k c.if-k-eq0.first_live c.loop-k.invariant.as_many
          within c.loop-k.invariant.told known refl;
      known = λ some. let back : c.loop-k.k + 1 - 1 ≡ c.loop-k.k = omega arith in rw back known;
    }

-- after the last place all live switches are marked
pub returns : goal.returns
returns c = flags_all c.args.names.now c.args.order.now c.loop-k.flags.items c.loop-k.k c.requires.in_order c.loop-k.invariant.as_many
    (omega arith) c.loop-k.invariant.told
