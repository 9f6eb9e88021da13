use Rattle.drv_plan.proofs.Steps.{input_refused, input_taken, refusal_given}
use Rattle.drv_plan.proofs.sources.add_inputs.Goals as goal
use Rattle.drv_plan.specs.Denoted.{with_inputs}
use Rattle.drv_system.proofs.AskedCalls.{asked_further, extends_before}

-- Names: `F`: what is known of the outside. `e`: that `F` extends the facts of this call. `extends_before`: what extends the facts after a
-- call extends those before it. `input_refused`: where the next input is refused, so is the whole. `input_taken`: the next input was
-- processed.

-- the refusal of an input is that of all
pub returns-in_err-add_input-clause-works : goal.returns-in_err-add_input-clause-works
returns-in_err-add_input-clause-works g c F e =
    refusal_given c.in_err-add_input.field-0.0 c.from_residual.result _
    (with_inputs F c.args.set.now 0 c.args.inputs.now c.args.progress.now) c.from_residual.ensures.1
    (input_refused F c.args.set.now c.args.inputs.now c.loop-place.place c.index-inputs-place.result c.loop-place.progress
    c.in_err-add_input.field-0.0 (with_inputs F c.args.set.now 0 c.args.inputs.now c.args.progress.now)
    c.loop-place-test.true c.index-inputs-place.is (c.in_err-add_input.ensures.works F e)
    (c.loop-place.invariant.rest F (extends_before c.add_input.ensures.asks e)))

-- one more input was added
pub loop-place-preserved : goal.loop-place-preserved
loop-place-preserved g c = record {
  asks = asked_further c.loop-place.invariant.asks c.add_input.ensures.asks;
  rest = λ F e.
      input_taken F c.args.set.now c.args.inputs.now c.loop-place.place c.index-inputs-place.result c.loop-place.progress
      c.add_input.new.progress (with_inputs F c.args.set.now 0 c.args.inputs.now c.args.progress.now)
      c.loop-place-test.true c.index-inputs-place.is (c.in_ok-add_input.ensures.works F e)
      (c.loop-place.invariant.rest F (extends_before c.add_input.ensures.asks e));
}
