use Rattle.drv_gcc.proofs.Joining.{joined}
use Rattle.drv_gcc.proofs.composing.push_line_root.Goals as goal
use Rattle.drv_gcc.specs.SpecFile.{line_root, spec_word}
use Rattle.std.proofs.Common.{◌++◌, codes}

-- Names: `joined`: what is added in two steps. `spec_word`: a word as a spec text gives it on, byte by byte.

-- the text says: --sysroot= of the line if it has one, or else the gcc's own root, byte by byte
pub returns : goal.returns
unfolding line_root
returns c =
    joined c.args.body.now c.push_word.new.text c.extend_from_slice-2.new.self
    (codes "%{-sysroot=*:--sysroot=%*;:" ++ spec_word c.args.own.now) (codes "}") (
    joined c.args.body.now c.extend_from_slice.new.self c.push_word.new.text (codes "%{-sysroot=*:--sysroot=%*;:")
    (spec_word c.args.own.now) c.in_ok-extend_from_slice.ensures.ok c.in_ok-push_word.ensures) c.in_ok-extend_from_slice-2.ensures.ok
