use Rattle.drv_compile.proofs.Noting.{memory_noted, none_noted}
use Rattle.drv_compile.proofs.LinesPrepared.{not_overwriting, overwriting_told}
use Rattle.drv_compile.proofs.Worded.{memory_stops}
use Rattle.drv_compile.proofs.preparing.refuse_overwriting.Goals as goal
use Rattle.drv_compile.specs.Overwriting.{files_read}
use Rattle.std.proofs.Common.{◌∙◌, ap}

-- Names: `memory_noted`: where memory lacked, any claim on a step's work or text holds.

pub returns-in_err-files : goal.returns-in_err-files
returns-in_err-files g c = none_noted _ _ (memory_stops c.from_residual.result _ _ c.from_residual.ensures.1)

pub returns-in_err-outputs : goal.returns-in_err-outputs
returns-in_err-outputs g c =
    none_noted _ _ (memory_stops c.from_residual-in_err-outputs.result _ _ c.from_residual-in_err-outputs.ensures.1)

pub returns-in_err-found : goal.returns-in_err-found
returns-in_err-found g c = memory_noted _ _ _ c.from_residual-in_err-found.result _ _ c.in_err-found.ensures
    c.from_residual-in_err-found.ensures.1

pub returns-in_default : goal.returns-in_default
returns-in_default g c =
    not_overwriting c.in_ok-files.files _ c.in_ok-outputs.outputs _ c.args.call.now c.args.line.now.given.files c.in_ok-found.found
    _ _ c.as_slice-2.ensures
    (c.in_ok-files.ensures ∙ ap (files_read c.args.call.now) c.as_slice.ensures) c.as_slice-3.ensures c.in_ok-outputs.ensures c.in_default.is
    c.in_ok-found.ensures

pub returns-in_err-text : goal.returns-in_err-text
returns-in_err-text g c = memory_noted _ _ _ c.from_residual-in_err-text.result _ _ c.in_ok-found.ensures
    c.from_residual-in_err-text.ensures.1

pub returns : goal.returns
returns g c =
    overwriting_told c.args.line.now c.as_bytes-name.result.now c.in_ok-text.text c.in_ok-files.files _ c.in_ok-outputs.outputs _
    c.args.call.now c.in_ok-found.found _ _ _ c.as_slice-2.ensures
    (c.in_ok-files.ensures ∙ ap (files_read c.args.call.now) c.as_slice.ensures) c.as_slice-3.ensures c.in_ok-outputs.ensures
    c.in-Some.is c.in_ok-found.ensures c.as_bytes-name.ensures
    c.in_ok-text.ensures
