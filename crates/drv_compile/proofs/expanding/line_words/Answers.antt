use Rattle.drv_compile.proofs.Worded.{unexpanded, unreadable, words_given}
use Rattle.drv_compile.proofs.expanding.line_words.Goals as goal
use Rattle.drv_system.proofs.AskedCalls.{extends_before}
use Rattle.std.proofs.Common.{rules}

-- Names: `F`: what is known of the outside. `e`: that `F` extends the facts of this call. `extends_before`: what extends the facts after a
-- call extends those before it. `unexpanded`: where the words can't be expanded, the call stops for the same reason. `unreadable`: why a
-- response file can't be read.

pub returns-in_err-expanded-clause-gives : goal.returns-in_err-expanded-clause-gives
returns-in_err-expanded-clause-gives g c F e =
    unexpanded F c.args.calling.now _ c.args.args.now _ c.from_residual.result (search rules) c.from_residual.ensures.1
    (c.in_err-expanded.ensures.gives F e)

-- a response file can't be read: the call is refused for it
pub returns-in_err-refuse_unread-clause-gives : goal.returns-in_err-refuse_unread-clause-gives
returns-in_err-refuse_unread-clause-gives g c F e =
    unreadable F c.args.calling.now _ c.args.args.now c.as_slice.result.now c.in_ok-expanded.expanded _
    c.from_residual-in_err-refuse_unread.result c.as_bytes-name.ensures c.as_slice.ensures
    (c.in_ok-expanded.ensures.gives F (extends_before c.refuse_unread.ensures.asks e)) c.from_residual-in_err-refuse_unread.ensures.1
    (c.in_err-refuse_unread.ensures.gives F e)

-- all can be read: the words are those of gcc for the expanded ones
pub returns-clause-gives : goal.returns-clause-gives
returns-clause-gives g c F e =
    words_given F c.args.calling.now c.args.args.now c.as_slice.result.now c.in_ok-expanded.expanded c.gcc_words.result c.as_slice.ensures
    (c.in_ok-expanded.ensures.gives F (extends_before c.refuse_unread.ensures.asks e))
    (c.in_ok-refuse_unread.ensures.gives F e) c.gcc_words.ensures
