use Rattle.drv_args.proofs.Verdicts.{input_is_output}
use Rattle.drv_args.specs.Lines.{is_input}
use Rattle.std.proofs.Common.{ap, inr, sym, ◌∙◌}
use Rattle.drv_args.proofs.judging.input_fault.Goals as goal

-- Names: `input_is_output`: an output that is an input is refused. `is_input`: whether an output is an input.

pub returns-then-is_input : goal.returns-then-is_input
returns-then-is_input c =
    inr (input_is_output c.args.output.now c.in_ok-clone.field-0 c.args.line.now
    (ap (λ output. is_input output c.args.line.now) (sym c.as_bytes.ensures) ∙ sym c.is_input.ensures ∙ c.if-is_input.true)
    c.in_ok-clone.ensures.cases)
