use Rattle.drv_specs.proofs.Carrying.{refusal_given, worked_fails, worked_given}
use Rattle.drv_specs.proofs.loading.worked_entries.Goals as goal
use Rattle.drv_specs.specs.Directives.{read_settled}
use Rattle.drv_specs.specs.Loading.{worked}
use Rattle.std.proofs.Common.{refl}

-- Names: `F`: what is known of the outside. `e`: that `F` extends the facts of this call. `set`, `files`: the fields of `Carried`
-- (specs/Loading). `read_settled`: the directives of a settled text, and of any. `refusal_given`: a refusal of a step is that of the call.

-- a directive is refused: so are the entries
pub returns-in_err-carry_out-clause-works : goal.returns-in_err-carry_out-clause-works
returns-in_err-carry_out-clause-works g c F e =
    refusal_given c.in_err-carry_out.field-0.0 c.from_residual.result _
    (worked F c.args.prefixes.now c.args.entries c.args.files (read_settled c.args.text.now)) c.from_residual.ensures.1
    (worked_fails F c.args.prefixes.now c.args.entries c.args.entries refl c.args.files
    (read_settled c.args.text.now) c.in_err-carry_out.field-0.0 (c.in_err-carry_out.ensures.carried F e))

-- all directives were carried out: their set is the result
pub returns-clause-works : goal.returns-clause-works
returns-clause-works g c F e =
    worked_given F c.args.prefixes.now c.args.entries c.args.entries refl c.args.files (read_settled c.args.text.now)
    (record { set = c.carry_out.new.loading.set; files = c.carry_out.new.loading.files })
    (c.in_ok-carry_out.ensures.carried F e)
