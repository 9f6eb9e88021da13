use Rattle.drv_compile.proofs.Absent.{set_objects, unset_objects}
use Rattle.drv_compile.proofs.inputs.objection.Goals as goal
use Rattle.drv_system.proofs.AskedCalls.{extends_before}
use Rattle.std.proofs.Common.{◌∙◌, sym}

-- Names: `set_objects`: a variable that is set, and one that is not. `unset_objects`: `objection` goes on to the inputs where the variable
-- is not set.

-- the variable is set: the text is about that
pub returns-then-is_some-clause-text : goal.returns-then-is_some-clause-text
returns-then-is_some-clause-text g c F e =
    set_objects F c.args.name.now c.args.inputs.now c.in_ok-value.value c.variable_text.result (c.in_ok-value.ensures.value F e)
    (sym c.is_some.ensures ∙ c.if-is_some.true)
    c.variable_text.ensures

-- it is not set: the text is about missing inputs, if some are missing
pub returns-clause-text : goal.returns-clause-text
returns-clause-text g c F e =
    unset_objects F c.args.name.now c.args.inputs.now c.in_ok-value.value c.absent_inputs_text.result
    (c.in_ok-value.ensures.value F (extends_before c.absent_inputs_text.ensures.asks e))
    (sym c.is_some.ensures ∙ c.if-is_some.false) (c.absent_inputs_text.ensures.text F e)
