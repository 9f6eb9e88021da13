use Rattle.drv_compile.proofs.Worded.{unread_asked}
use Rattle.drv_compile.proofs.expanding.unread_at.Goals as goal
use Rattle.std.proofs.Common.{ap}
use Rattle.std.specs.Option.{option_copied}

-- Names: `unread_asked`: a response file.

-- there is a path: it is given if the file is there and its read fails
pub returns-clause-path : goal.returns-clause-path
returns-clause-path g c F e =
    unread_asked F (option_copied c.args.path) c.in-Some.path.now c.in_ok-path.path c.read_answer-answer.result.now c.if_unread.result
    (ap option_copied c.in-Some.is) c.in_ok-path.ensures
    (e.reads c.in_ok-path.path c.read_answer-answer.result.now c.read_answer-answer.ensures) c.if_unread.ensures
