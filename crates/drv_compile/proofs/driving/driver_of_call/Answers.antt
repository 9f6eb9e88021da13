use Rattle.drv_compile.proofs.DriverCalls.{called_damaged, called_whole}
use Rattle.drv_compile.proofs.Noting.{memory_noted_over, none_noted}
use Rattle.drv_compile.proofs.Worded.{memory_stops}
use Rattle.drv_compile.proofs.driving.driver_of_call.Goals as goal
use Rattle.drv_system.specs.Known.{Is}
use Rattle.std.proofs.Common.{◌∙◌, ap}

-- Names: `none_noted`: nothing was noted. `memory_stops`: lack of memory says nothing. `called_damaged`: `driver_of_call` refuses a line
-- whose texts are damaged, by the parts of its call.

pub returns-in_err-texts-clause-calls : goal.returns-in_err-texts-clause-calls
returns-in_err-texts-clause-calls g c = none_noted _ _ (λ F e. memory_stops c.from_residual.result _ _ c.from_residual.ensures.1)

pub returns-in_err-worker-in-Whole-clause-calls : goal.returns-in_err-worker-in-Whole-clause-calls
returns-in_err-worker-in-Whole-clause-calls g c =
    memory_noted_over _ _ _ c.from_residual-in_err-worker-in-Whole.result _ _ _ c.in_err-worker-in-Whole.ensures
    c.from_residual-in_err-worker-in-Whole.ensures.1

-- the texts are whole: the line is called by them
pub returns-in_ok-worker-in-Whole-clause-calls : goal.returns-in_ok-worker-in-Whole-clause-calls
returns-in_ok-worker-in-Whole-clause-calls g c =
    called_whole c.args.line.now c.args.call _ _ c.in-Whole.path
    c.in_ok-worker-in-Whole.worker _ _ _ c.as_bytes-specs.ensures c.as_slice.ensures
    (λ F e. c.in_ok-texts.ensures.texts F e ∙ ap Is c.in-Whole.is) c.in_ok-worker-in-Whole.ensures

pub returns-in_err-text-in-Damaged-clause-calls : goal.returns-in_err-text-in-Damaged-clause-calls
returns-in_err-text-in-Damaged-clause-calls g c =
    none_noted _ _ (λ F e. memory_stops c.from_residual-in_err-text-in-Damaged.result _ _
    c.from_residual-in_err-text-in-Damaged.ensures.1)

-- the file of the texts isn't whole: the line is refused, and the host was asked nothing
pub returns-in_ok-text-in-Damaged-clause-calls : goal.returns-in_ok-text-in-Damaged-clause-calls
returns-in_ok-text-in-Damaged-clause-calls g c = none_noted _ _ (λ F e.
    called_damaged F c.args.line.now c.args.call _ _ c.in-Damaged.path _ c.in_ok-text-in-Damaged.text
    c.as_bytes-specs.ensures c.as_slice.ensures
    (c.in_ok-texts.ensures.texts F e ∙ ap Is c.in-Damaged.is) c.as_bytes.ensures c.in_ok-text-in-Damaged.ensures)
