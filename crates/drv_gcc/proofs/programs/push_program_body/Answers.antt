use Rattle.drv_gcc.proofs.Joining.{joined}
use Rattle.drv_gcc.proofs.programs.push_program_body.Goals as goal
use Rattle.drv_gcc.specs.SpecFile.{program_body, program_choice}
use Rattle.std.proofs.Common.{◌++◌, codes}

-- `joined` adds the three parts of the body, from the last one to the first.
pub returns : goal.returns
unfolding program_body
returns c =
    joined c.args.body.now c.push_choice_of.new.body c.extend_from_slice-2.new.self
    (codes "%{" ++ program_choice c.args.name.now c.args.it.now) (codes "}%(wrapped)")
    (joined c.args.body.now c.extend_from_slice.new.self c.push_choice_of.new.body (codes "%{")
    (program_choice c.args.name.now c.args.it.now)
    c.in_ok-extend_from_slice.ensures.ok c.in_ok-push_choice_of.ensures) c.in_ok-extend_from_slice-2.ensures.ok
