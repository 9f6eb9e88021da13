use Rattle.drv_gcc.proofs.Joining.{joined}
use Rattle.drv_gcc.proofs.composing.push_library_words.Goals as goal
use Rattle.drv_gcc.specs.SpecFile.{library_words, spec_word, then_blank}
use Rattle.std.proofs.Common.{◌++◌, codes}
use Rattle.std.specs.List.{flat_map}

-- `joined` adds the five parts of the words, from the last one to the first.
pub returns : goal.returns
unfolding library_words
returns c =
    joined c.args.body.now c.extend_from_slice-2.new.self c.push_word.new.text
    (flat_map then_blank c.args.before.now ++ codes "%{B*:-L%*} " ++ flat_map then_blank c.args.words.now
    ++ codes "%{-gdrv-lib=*:-L%*} ") (spec_word c.args.last.now) (
    joined c.args.body.now c.push_words-2.new.body c.extend_from_slice-2.new.self
    (flat_map then_blank c.args.before.now ++ codes "%{B*:-L%*} " ++ flat_map then_blank c.args.words.now)
    (codes "%{-gdrv-lib=*:-L%*} ") (
    joined c.args.body.now c.extend_from_slice.new.self c.push_words-2.new.body
    (flat_map then_blank c.args.before.now ++ codes "%{B*:-L%*} ") (flat_map then_blank c.args.words.now) (
    joined c.args.body.now c.push_words.new.body c.extend_from_slice.new.self (flat_map then_blank c.args.before.now)
    (codes "%{B*:-L%*} ") c.in_ok-push_words.ensures c.in_ok-extend_from_slice.ensures.ok) c.in_ok-push_words-2.ensures)
    c.in_ok-extend_from_slice-2.ensures.ok) c.in_ok-push_word.ensures
