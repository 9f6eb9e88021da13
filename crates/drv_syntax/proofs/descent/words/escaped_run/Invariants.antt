use Rattle.drv_syntax.proofs.descent.words.escaped_run.Given as goal
use Rattle.drv_syntax.specs.Code.Writing.{in_class, more_ran, seen}
use Rattle.drv_syntax.specs.Descent.{quoted}
use Rattle.std.proofs.Common.{◌≡◌, length}

-- the bytes that are copied and the run at the front of what is left make the whole run
abbrev pub invariant-loop-b : goal.invariant-loop-b
invariant-loop-b l =
    more_ran l.r.word.items (quoted (in_class l.class) l.r.rest) (seen l.r)
    ≡ more_ran l.front (quoted (in_class l.class) l.fn.r.rest) (seen l.fn.r)

-- each round takes a byte of the text at least
abbrev pub decreases-loop-b : goal.decreases-loop-b
decreases-loop-b l = length l.r.rest.bytes
