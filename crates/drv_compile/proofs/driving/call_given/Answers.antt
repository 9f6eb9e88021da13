use Rattle.drv_compile.proofs.DriverCalls.{given_ask, given_none, given_refusal, given_run}
use Rattle.drv_compile.proofs.driving.call_given.Goals as goal
use Rattle.std.proofs.Common.{◌∙◌, Some, ap}

-- Names: `given_ask`: `call_given` gives no line where the spec files made a question of it. `given_none`: `call_given` gives no line where
-- the spec files gave it nothing.

pub returns-in-Some-Run : goal.returns-in-Some-Run
returns-in-Some-Run c = given_run c.args.answer c.in-Some-Run.call (c.in-Some-Run.is ∙ ap Some c.in-Some-Run.field-0-is)

-- the spec files refuse the line: so is the call, with these refusals
pub returns-in_ok-text-in-Some-Refuse : goal.returns-in_ok-text-in-Some-Refuse
returns-in_ok-text-in-Some-Refuse c =
    given_refusal c.args.line.now c.args.answer c.in-Some-Refuse.refusals _ _ _ c.in_ok-text-in-Some-Refuse.text
    (c.in-Some-Refuse.is ∙ ap Some c.in-Some-Refuse.field-0-is) c.as_bytes-name.ensures
    c.as_bytes-known.ensures c.as_slice.ensures c.in_ok-text-in-Some-Refuse.ensures

pub returns-in-Some-Ask : goal.returns-in-Some-Ask
returns-in-Some-Ask c = given_ask c.args.answer (c.in-Some-Ask.is ∙ ap Some c.in-Some-Ask.field-0-is)

pub returns-in-None : goal.returns-in-None
returns-in-None c = given_none c.args.answer c.in-None.is
