use Rattle.drv_gcc.proofs.Joining.{joined}
use Rattle.drv_gcc.proofs.programs.push_choice_of.Goals as goal
use Rattle.drv_gcc.specs.SpecFile.{looked_for, program_choice, spec_word}
use Rattle.std.proofs.Common.{◌∙◌, ◌++◌, ap, codes}

-- `joined` adds the five parts of the choice, from the last one to the first.
pub returns : goal.returns
unfolding program_choice
returns c =
    joined c.args.body.now c.extend_from_slice-3.new.self c.push_word.new.text
    (looked_for c.args.it.now.finding ++ codes ":" ++ c.args.name.now ++ codes ";:") (spec_word c.args.it.now.path)
    (joined c.args.body.now c.extend_from_slice-2.new.self c.extend_from_slice-3.new.self
    (looked_for c.args.it.now.finding ++ codes ":" ++ c.args.name.now) (codes ";:")
    (joined c.args.body.now c.extend_from_slice.new.self c.extend_from_slice-2.new.self (looked_for c.args.it.now.finding ++ codes ":")
    (c.args.name.now)
    (joined c.args.body.now c.push_looked_for.new.body c.extend_from_slice.new.self (looked_for c.args.it.now.finding) (codes ":")
    (c.in_ok-push_looked_for.ensures) c.in_ok-extend_from_slice.ensures.ok) c.in_ok-extend_from_slice-2.ensures.ok)
    c.in_ok-extend_from_slice-3.ensures.ok) (c.in_ok-push_word.ensures
    ∙ ap (λ l. c.extend_from_slice-3.new.self ++ spec_word l) c.as_bytes.ensures)
