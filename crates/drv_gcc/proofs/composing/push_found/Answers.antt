use Rattle.drv_gcc.proofs.Joining.{joined}
use Rattle.drv_gcc.proofs.composing.push_found.Goals as goal
use Rattle.drv_gcc.specs.SpecFile.{found_body, spec_word}
use Rattle.std.proofs.Common.{◌++◌, codes}

-- `joined` adds the five parts of the body, from the last one to the first.
pub returns : goal.returns
unfolding found_body
returns c =
    joined c.args.body.now c.push_word.new.text c.extend_from_slice-4.new.self
    (codes "%{-gdrv-dirs:" ++ c.args.name.now ++ codes "%s;:" ++ spec_word c.args.path.now) (codes "}")
    (joined c.args.body.now c.extend_from_slice-3.new.self c.push_word.new.text (codes "%{-gdrv-dirs:" ++ c.args.name.now ++ codes "%s;:")
    (spec_word c.args.path.now)
    (joined c.args.body.now c.extend_from_slice-2.new.self c.extend_from_slice-3.new.self (codes "%{-gdrv-dirs:" ++ c.args.name.now)
    (codes "%s;:")
    (joined c.args.body.now c.extend_from_slice.new.self c.extend_from_slice-2.new.self (codes "%{-gdrv-dirs:") c.args.name.now
    c.in_ok-extend_from_slice.ensures.ok c.in_ok-extend_from_slice-2.ensures.ok) c.in_ok-extend_from_slice-3.ensures.ok)
    c.in_ok-push_word.ensures) c.in_ok-extend_from_slice-4.ensures.ok
