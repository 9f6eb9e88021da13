use Rattle.drv_compile.proofs.Absent.{absent_more}
use Rattle.drv_compile.proofs.inputs.absent_inputs_text.Goals as goal
use Rattle.drv_system.proofs.AskedCalls.{asked_further}
use Rattle.drv_system.proofs.Asking.{asks_extends, extends_then}
use Rattle.drv_compile.specs.Inputs.{absent_by}
use Rattle.std.proofs.Common.{◌++◌, ◌∙◌, ap, refl}

-- One input more was asked for, and its line added if it isn't there (`absent_more`).
pub loop-input-preserved : goal.loop-input-preserved
loop-input-preserved g c = record {
  asks = asked_further c.loop-input.invariant.asks (record { asks = c.kind.ensures.asks; same_sys = refl; same_facts = refl });
  rest = λ F e.
      absent_more F c.args.name.now c.args.inputs.now c.loop-input.input-index c.input-item.result c.in_ok-kind.kind c.loop-input.text
      c.add_if_absent.new.text
      c.loop-input-test.true c.input-item.is (e.kinds c.input-item.result c.in_ok-kind.kind c.in_ok-kind.ensures.known)
      (c.in_ok-add_if_absent.ensures ∙ ap (λ p. c.loop-input.text ++ absent_by c.args.name.now p c.in_ok-kind.kind) c.as_bytes.ensures)
      (c.loop-input.invariant.rest F (extends_then (asks_extends c.kind.ensures.asks) e));
}

pub returns-in_err-add_if_absent-clause-asks : goal.returns-in_err-add_if_absent-clause-asks
returns-in_err-add_if_absent-clause-asks g c = asked_further c.loop-input.invariant.asks
    (record { asks = c.kind.ensures.asks; same_sys = refl; same_facts = refl })
