use Rattle.drv_compile.proofs.FirstRead.{new_read, old_read, short_noted, sink_read}
use Rattle.drv_compile.proofs.overwriting.clash_with.Goals as goal
use Rattle.drv_compile.specs.Suffixes.{is_no_file}
use Rattle.std.proofs.Common.{◌∙◌, ap, sym}

pub returns-then-is_no_file : goal.returns-then-is_no_file
returns-then-is_no_file g c =
    sink_read c.args.files.now c.args.output.now c.as_bytes.result.now c.is_no_file.result _ c.as_bytes.ensures c.is_no_file.ensures
    c.if-is_no_file.true

pub returns-in_default : goal.returns-in_default
returns-in_default g c =
    new_read c.args.files.now c.args.output.now c.as_bytes.result.now c.is_no_file.result c.in_ok-answer.answer _ _ c.as_bytes.ensures
    c.is_no_file.ensures c.if-is_no_file.false c.in_default.is c.in_ok-answer.ensures.event

pub returns-in_err-found : goal.returns-in_err-found
returns-in_err-found g c =
    short_noted _ _ _ (λ e. Unit {0}) _ c.from_residual-in_err-found.result _ _ (_, c.in_ok-answer.ensures.event, tt) c.in_err-found.ensures
    c.from_residual-in_err-found.ensures.1

pub returns : goal.returns
returns g c =
    old_read c.args.files.now c.args.output.now _ c.in_ok-answer.answer c.in_ok-found.found _ _ _ c.clash_of.result
    (sym (ap is_no_file c.as_bytes.ensures) ∙ sym c.is_no_file.ensures ∙ c.if-is_no_file.false) c.in-Some.is c.in_ok-answer.ensures.event
    c.in_ok-found.ensures c.clash_of.ensures
