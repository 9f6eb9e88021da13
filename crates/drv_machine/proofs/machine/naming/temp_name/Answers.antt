use Rattle.drv_machine.proofs.Draws.{temp_named}
use Rattle.drv_machine.proofs.machine.naming.temp_name.Goals as goal
use Rattle.drv_system.specs.Facts.{variable_of}
use Rattle.std.proofs.Common.{ap, codes, sym, ◌++◌, ◌∙◌}
use Rattle.std.specs.Option.{option_copied}

-- Names: `F`: what is known of the outside. `e`: that `F` extends the facts of this call. `temp_named`: a name is made of its parts.
-- `variable_of`: the value None means that the variable is known to be unset.

-- the folder, the seed, the number and the suffix make the name of the definition
pub returns-clause-name : goal.returns-clause-name
returns-clause-name g c F e =
    let dir = option_copied c.variable_answer.result in
    temp_named F dir c.args.seed c.args.number c.args.suffix.now c.empty-path.result c.push_folder.new.path c.extend_from_slice.new.self
    c.extend_from_slice-2.new.self c.push.new.self
    c.extend_from_slice-3.new.self c.extend_from_slice-4.new.self
    (e.variables (codes "TMPDIR") dir (ap (variable_of c.variable.new.self) (sym c.in_ok-variable.ensures) ∙ c.variable_answer.ensures))
    c.empty-path.ensures c.in_ok-push_folder.ensures c.in_ok-extend_from_slice.ensures.ok
    (c.in_ok-extend_from_slice-2.ensures.ok ∙ ap (λ digits. c.extend_from_slice.new.self ++ digits) c.hex.ensures)
    c.in_ok-push.ensures.ok (c.in_ok-extend_from_slice-3.ensures.ok
    ∙ ap (λ digits. c.push.new.self ++ digits) (c.as_bytes.ensures.value ∙ c.format.ensures.text))
    c.in_ok-extend_from_slice-4.ensures.ok
