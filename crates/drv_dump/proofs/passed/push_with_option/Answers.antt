use Rattle.drv_dump.proofs.passed.push_with_option.Goals as goal
use Rattle.drv_dump.proofs.Passing.{option_put}

-- Names: `option_put`: a word after the option.

pub returns : goal.returns
returns c =
    option_put c.args.copy.now c.extend_from_slice.new.self c.extend_from_slice-2.new.self c.args.word.now
    c.in_ok-extend_from_slice.ensures.ok
    c.in_ok-extend_from_slice-2.ensures.ok
