use Rattle.drv_machine.proofs.EmitSteps.{put_fails, put_one}
use Rattle.drv_machine.proofs.Steps.{fails_as}
use Rattle.drv_machine.proofs.emitting.put_switches.Goals as goal
use Rattle.drv_machine.specs.Code.ByKind.{put_at}
use Rattle.drv_machine.specs.Code.Running.{reached, run}
use Rattle.drv_machine.specs.Working.{puts}
use Rattle.drv_system.proofs.AskedCalls.{asked_further, extends_before}
use Rattle.std.proofs.Common.{arith, length, rules, sym, ◌<◌, ◌∙◌}
use Rattle.std.proofs.lemmas.List.Elements.{All-get_or}

-- Names: `n`: how many items were reached. `F`: what is known of the outside. `e`: that `F` extends the facts of this call. `reached n s`:
-- the machine s where n items were reached. `asked_further`: calls that only asked, one after another. `extends_before`: what extends the
-- facts after a call extends those before it.

-- the switch is on the line
pub put_switch-requires : goal.put_switch-requires
put_switch-requires g c = All-get_or (λ place. place < length c.args.context.now.switches) c.args.places.now c.loop-place.place-index 0
    (omega arith) c.requires

-- one switch is put, and the others are left
pub loop-place-preserved : goal.loop-place-preserved
loop-place-preserved g c = record {
  asks = asked_further c.loop-place.invariant.asks c.put_switch.ensures.asks;
  left = λ n F e.
      sym (put_one F c.args.context.now (reached n c.loop-place.machine) (reached n c.put_switch.new.self) c.args.places.now
      c.loop-place.place-index (omega arith) (c.in_ok-put_switch.ensures.does n F e))
      ∙ c.loop-place.invariant.left n F (extends_before c.put_switch.ensures.asks e);
}

-- a switch can't be put
pub returns-in_err-put_switch-clause-does : goal.returns-in_err-put_switch-clause-does
returns-in_err-put_switch-clause-does g c n F e =
    let failed =
    put_fails F c.args.context.now (reached n c.loop-place.machine) (reached n c.loop-place.machine) c.args.places.now
    c.loop-place.place-index (omega arith) c.in_err-put_switch.field-0.0 (c.in_err-put_switch.ensures.does n F e) in
    let whole = fails_as _ (run F c.args.context.now (reached n c.args.machine.now) (puts (put_at F c.args.context.now c.args.places.now)))
    failed (λ x. sym (c.loop-place.invariant.left n F (extends_before c.put_switch.ensures.asks e)) ∙ x) in
    let f = c.from_residual.ensures in
    search rules

-- what was asked, where a switch can't be put
pub returns-in_err-put_switch-clause-asks : goal.returns-in_err-put_switch-clause-asks
returns-in_err-put_switch-clause-asks g c = asked_further c.loop-place.invariant.asks c.put_switch.ensures.asks

-- what was asked for all switches
pub returns-clause-asks : goal.returns-clause-asks
returns-clause-asks g c = c.loop-place.invariant.asks
