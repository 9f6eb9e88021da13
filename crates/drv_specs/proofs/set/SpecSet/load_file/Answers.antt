use Rattle.drv_specs.proofs.Carrying.{file_read, file_unread, given_alike, read_file, refusal_given}
use Rattle.drv_specs.proofs.set.SpecSet.load_file.Goals as goal
use Rattle.drv_specs.specs.Directives.{read_settled}
use Rattle.drv_specs.specs.Loading.{file_loaded, file_text, worked}
use Rattle.drv_specs.specs.declared.directive.IfMissing.TheVariants.{Refuse}
use Rattle.drv_specs.specs.declared.fault.SpecsFault.TheVariants.{Memory}
use Rattle.drv_system.proofs.AskedCalls.{asked_further, extends_before}
use Rattle.drv_system.proofs.Asking.{extends_refl}
use Rattle.drv_system.specs.Asking.{Extends}
use Rattle.drv_system.specs.Known.{Is}
use Rattle.std.proofs.Common.{◌≡◌, ◌⊎◌, ◌∙◌, Err, ap, rules, subst}

-- Names: `F`: what is known of the outside. `e`: that `F` extends the facts of this call. `file_read`: a file that is loaded is its settled
-- text, carried out. `file_unread`: a file that can't be read is not loaded. `given_alike`: what a result gives of one definition it gives
-- of an equal one. `read_file`: the file's text, as the code keeps it, is the settled one.

pub returns-in_err-text-clause-asks : goal.returns-in_err-text-clause-asks
returns-in_err-text-clause-asks g c = let asks = c.file_text.ensures.asks.asks in search rules

pub returns-clause-asks : goal.returns-clause-asks
returns-clause-asks g c = let asks = (asked_further c.file_text.ensures.asks c.work.ensures.asks).asks in search rules

-- a file that can't be read is refused
pub returns-in_err-text-clause-loads : goal.returns-in_err-text-clause-loads
returns-in_err-text-clause-loads g c F e =
    let known : Extends c.file_text.new.outside.facts.now F = search rules in
    refusal_given c.in_err-text.field-0.0 c.from_residual.result _
    (file_loaded F c.args.prefixes.now c.args.self.now c.args.name.now) c.from_residual.ensures.1
    (subst (λ n. (c.in_err-text.field-0.0 ≡ Memory) ⊎ (file_loaded F c.args.prefixes.now c.args.self.now n
    ≡ Is (Err c.in_err-text.field-0.0))) c.as_bytes.ensures
    (file_unread F c.args.prefixes.now c.args.self.now c.as_bytes.result.now c.in_err-text.field-0.0 (c.in_err-text.ensures.text F known)))

-- the directives of the file's text are carried out
pub returns-clause-loads : goal.returns-clause-loads
returns-clause-loads g c F e =
    let known : Extends c.work.new.outside.facts.now F = search rules in
    given_alike _ c.work.result (worked F c.args.prefixes.now c.args.self.now 1999 (read_settled c.as_slice.result.now))
    (file_loaded F c.args.prefixes.now c.args.self.now c.args.name.now)
    (file_read F c.args.prefixes.now c.args.self.now c.as_bytes.result.now c.in_ok-text.text.items c.as_slice.result.now
    (c.in_ok-text.ensures.text F (extends_before c.work.ensures.asks known)) c.as_slice.ensures.value
    ∙ ap (file_loaded F c.args.prefixes.now c.args.self.now) c.as_bytes.ensures)
    (c.work.ensures.works F known)

-- the text that was read is a settled one, as `work` requires
pub work-requires : goal.work-requires
work-requires g c =
    let file = read_file (file_text c.file_text.new.outside.facts.now c.args.prefixes.now Refuse c.as_bytes.result.now)
    c.in_ok-text.text.items (c.in_ok-text.ensures.text c.file_text.new.outside.facts.now
    (extends_refl c.file_text.new.outside.facts.now)) in
    (file.0, c.as_slice.ensures.value ∙ file.1.1)
