use Rattle.drv_syntax.proofs.descent.patterns.patterns.Given as goal
use Rattle.drv_syntax.specs.Code.Tests.{patterns_given}
use Rattle.drv_syntax.specs.Code.Writing.{seen}
use Rattle.drv_syntax.specs.Descent as descent
use Rattle.std.proofs.Common.{◌≡◌, length}

-- the patterns so far and what Descent gives of the text that is left make what is given of all
abbrev pub invariant-loop-p : goal.invariant-loop-p
invariant-loop-p l =
    patterns_given l.outer (seen l.r) (descent.patterns l.at l.r.rest)
    ≡ patterns_given l.fn.outer (seen l.fn.r) (descent.patterns l.fn.at l.fn.r.rest)

-- each round takes a byte of the text at least
abbrev pub decreases-loop-p : goal.decreases-loop-p
decreases-loop-p l = length l.r.rest.bytes
