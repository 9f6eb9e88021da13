use Rattle.drv_gcc.proofs.Joining.{joined}
use Rattle.drv_gcc.proofs.composing.push_rooted.Goals as goal
use Rattle.drv_gcc.specs.SpecFile.{rooted_words}
use Rattle.std.proofs.Common.{◌++◌, codes}

-- `joined` adds the five parts of the words, from the last one to the first.
pub returns : goal.returns
unfolding rooted_words
returns c =
    joined c.args.body.now c.extend_from_slice-4.new.self c.extend_from_slice-5.new.self
    (codes "%{-sysroot=*:" ++ c.args.below.now ++ codes ";:" ++ c.args.plain.now) (codes "}") (
    joined c.args.body.now c.extend_from_slice-3.new.self c.extend_from_slice-4.new.self
    (codes "%{-sysroot=*:" ++ c.args.below.now ++ codes ";:") (c.args.plain.now) (
    joined c.args.body.now c.extend_from_slice-2.new.self c.extend_from_slice-3.new.self (codes "%{-sysroot=*:" ++ c.args.below.now)
    (codes ";:") (
    joined c.args.body.now c.extend_from_slice.new.self c.extend_from_slice-2.new.self (codes "%{-sysroot=*:")
    (c.args.below.now) c.in_ok-extend_from_slice.ensures.ok c.in_ok-extend_from_slice-2.ensures.ok)
    c.in_ok-extend_from_slice-3.ensures.ok) c.in_ok-extend_from_slice-4.ensures.ok) c.in_ok-extend_from_slice-5.ensures.ok
